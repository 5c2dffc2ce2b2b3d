use Rattle.std.proofs.Common.{◌≡◌, ◌∙◌, ℕ, List, [], ◌∷◌, ◌++◌, length, sym, ap, ap₂, arith}
use Rattle.std.proofs.lemmas.List.FromFn.{map-range_with_len_more}
use Rattle.si_insert.specs.declared.partition.Class.{Class}
use Rattle.si_insert.specs.Partition.{class_of}
use Rattle.si_candidates.proofs.SideClassLemmas.{all_listed, size_is}
use Rattle.si_candidates.proofs.by_sides.SideClasses.list.Goals as goal

pub class-requires : goal.class-requires
class-requires c =
    let b = c.self.inside in
    let size = size_is b.plus.now b.minus.now b.plus_sides.now b.minus_sides.now b.turn in
    let all = ap (length {A = Class}) c.self.view_is in
    omega (arith, size, all, c.loop-k-test.true, c.size-k-end.ensures)

pub loop-k-preserved : goal.loop-k-preserved
loop-k-preserved c =
    let b = c.self.inside in
    let k = c.loop-k.k in
    let told : ℕ → Class = λ s. class_of c.args.self.now s in
    let size = size_is b.plus.now b.minus.now b.plus_sides.now b.minus_sides.now b.turn in
    let all = ap (length {A = Class}) c.self.view_is in
    record {
      told = c.in_ok-push.ensures.items
          ∙ ap₂ (λ (list : List Class) (class : Class). list ++ class ∷ []) c.loop-k.invariant.told c.class.ensures
          ∙ sym (map-range_with_len_more told 0 k k (omega arith));
      most = omega (arith, size, all, c.loop-k-test.true, c.size-k-end.ensures);
    }

pub returns : goal.returns
returns c =
    let b = c.self.inside in
    let size = size_is b.plus.now b.minus.now b.plus_sides.now b.minus_sides.now b.turn in
    let all = ap (length {A = Class}) c.self.view_is in
    let classes = c.args.self.now in
    let end : c.loop-k.k ≡ length classes =
    omega (arith, size, all, c.loop-k-test.false, c.loop-k.invariant.most, c.size-k-end.ensures) in
    c.loop-k.invariant.told ∙ all_listed classes c.loop-k.k end
