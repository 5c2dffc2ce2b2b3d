use Rattle.std.proofs.Common.{◌≡◌, ◌<◌, ◌∙◌, length, get_or, false, List, sym, ap, subst, arith, rules}
use Rattle.si_base.specs.Graph.{is_driven}
use Rattle.si_base.specs.declared.graph.Signal.{Signal}
use Rattle.si_checks.specs.Loops.Lent.{coded_of}
use Rattle.si_match.proofs.WeightLemmas.{begins, driven, input, is_non_input}
use Rattle.si_map.proofs.weight.weight_without.Goals as goal

pub loop-i-init : goal.loop-i-init
loop-i-init c = record {
  told = λ library are. (let whole = begins (coded_of c.args.graph) library in omega (arith, whole));
  few = omega arith;
}

pub loop-i-preserved-then-not-is_driven : goal.loop-i-preserved-then-not-is_driven
loop-i-preserved-then-not-is_driven c =
    let d = coded_of c.args.graph in
    let x = c.index-signals-i.result in
    let same : c.signals-signals.result.now ≡ d.graph.signals = search rules in
    let inside : c.loop-i.i < length d.graph.signals =
    subst (λ (xs : List Signal). c.loop-i.i < length xs) same c.loop-i-test.true in
    let is : x ≡ get_or d.graph.signals c.loop-i.i x =
    subst (λ (xs : List Signal). x ≡ get_or xs c.loop-i.i x) same c.index-signals-i.is in
    let kind = c.is_driven.ensures ∙ ap (λ (y : Signal). is_driven y.kind) (sym c.index-signals-i.is) in
    let none : is_driven x.kind ≡ false = sym kind ∙ c.if-not-is_driven.true in
    record {
      told = λ library are.
          input d library c.loop-i.i x c.loop-i.weight inside is (c.loop-i.invariant.told library are) none;
      few = omega (arith, c.loop-i.invariant.few);
    }

pub added_by-requires : goal.added_by-requires
added_by-requires c =
    let d = coded_of c.args.graph in
    let same : c.signals-signals.result.now ≡ d.graph.signals = search rules in
    is_non_input d.graph.signals c.signals-signals.result.now c.loop-i.i c.index-signals-i.result c.is_driven.result
    same c.loop-i-test.true c.index-signals-i.is
    (c.is_driven.ensures ∙ ap (λ (x : Signal). is_driven x.kind) (sym c.index-signals-i.is)) c.if-not-is_driven.false

pub loop-i-preserved : goal.loop-i-preserved
loop-i-preserved c =
    let d = coded_of c.args.graph in
    let x = c.index-signals-i.result in
    let same : c.signals-signals.result.now ≡ d.graph.signals = search rules in
    let inside : c.loop-i.i < length d.graph.signals =
    subst (λ (xs : List Signal). c.loop-i.i < length xs) same c.loop-i-test.true in
    let is : x ≡ get_or d.graph.signals c.loop-i.i x =
    subst (λ (xs : List Signal). x ≡ get_or xs c.loop-i.i x) same c.index-signals-i.is in
    let kind = c.is_driven.ensures ∙ ap (λ (y : Signal). is_driven y.kind) (sym c.index-signals-i.is) in
    let non_input = is_non_input d.graph.signals c.signals-signals.result.now c.loop-i.i x c.is_driven.result same
    c.loop-i-test.true c.index-signals-i.is kind c.if-not-is_driven.false in
    record {
      told = λ library are.
          driven d library c.loop-i.i x c.loop-i.weight inside is (c.loop-i.invariant.told library are) _
          (sym kind ∙ c.if-not-is_driven.false)
          (c.in_ok-weight.ensures.weight library (c.get.ensures ∙ are c.loop-i.i non_input));
      few = omega (arith, c.loop-i.invariant.few, c.in_ok-weight.ensures.few);
    }
