use Rattle.std.proofs.Common.{◌≡◌, ◌<◌, ◌∙◌, ℕ, List, length, get_or, ap, subst, arith}
use Rattle.std.proofs.lemmas.List.{get_or_default}
use Rattle.si_base.specs.Bits.{bit}
use Rattle.si_insert.specs.declared.partition.Class.{Class}
use Rattle.si_divisor.specs.Loops.ManyFunctions.{AreClassesAt}
use Rattle.si_divisor.proofs.ManyFunctionLemmas.{one_class}
use Rattle.si_divisor.proofs.function_sets.FunctionSets.classes_at.Goals as goal

pub loop-s-init : goal.loop-s-init
loop-s-init c = record {
  count = ap (λ (classes : List Class). length classes) c.new-classes.ensures.items;
  each = λ s early. absurd (omega (arith, early));
}

pub loop-s-preserved : goal.loop-s-preserved
loop-s-preserved c =
    let self = c.args.self.now in
    let s = c.loop-s.s in
    let inside : s < length self.plus.items = omega (arith, c.loop-s-test.true) in
    let in_minus : s < length self.minus.items = omega (arith, inside, c.requires.minus) in
    let in_ones : s < length self.ones.items = omega (arith, inside, c.requires.ones) in
    let plus_at : c.index.result.now ≡ get_or self.plus.items s 0 =
    c.index.ensures ∙ get_or_default self.plus.items s c.index.result.now 0 inside in
    let minus_at : c.index-in-loop-s.result.now ≡ get_or self.minus.items s 0 =
    c.index-in-loop-s.ensures ∙ get_or_default self.minus.items s c.index-in-loop-s.result.now 0 in_minus in
    let ones_at : c.index-in-loop-s-2.result.now ≡ get_or self.ones.items s 0 =
    c.index-in-loop-s-2.ensures ∙ get_or_default self.ones.items s c.index-in-loop-s-2.result.now 0 in_ones in
    let rises = c.has_bit-rises.ensures ∙ ap (λ w. bit w c.args.k) plus_at in
    let falls = c.has_bit-falls.ensures ∙ ap (λ w. bit w c.args.k) minus_at in
    let one = c.has_bit-is_one.ensures ∙ ap (λ w. bit w c.args.k) ones_at in
    let is = rw (rises, falls, one) at c.class_at.ensures in
    rw c.in_ok-push.ensures.items (one_class self c.args.k s c.loop-s.classes.items _ is c.loop-s.invariant)

pub returns : goal.returns
returns c =
    let self = c.args.self.now in
    let all : c.loop-s.s ≡ length self.plus.items = omega (arith, c.loop-s-test.false, c.loop-s.auto.s-end) in
    subst (λ (n : ℕ). AreClassesAt n c.args.k self c.loop-s.classes.items) all c.loop-s.invariant
