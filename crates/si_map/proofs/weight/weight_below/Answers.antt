use Rattle.std.proofs.Common.{◌≡◌, ◌∙◌, sym, ap, arith, rules}
use Rattle.si_base.specs.Graph.{is_driven}
use Rattle.si_base.specs.declared.graph.Signal.{Signal}
use Rattle.si_checks.specs.Loops.Lent.{coded_of}
use Rattle.si_match.proofs.WeightLemmas.{begins, is_non_input}
use Rattle.si_map.proofs.weight.weight_below.Goals as goal

pub loop-i-init : goal.loop-i-init
loop-i-init c = record {
  told = (let whole = begins (coded_of c.args.graph) c.args.library.now in omega (arith, whole));
  below = omega arith;
}

pub added_below-requires-clause-driven : goal.added_below-requires-clause-driven
added_below-requires-clause-driven c =
    let same : c.signals-signals.result.now ≡ c.coded-coded.result.now.graph.signals = search rules in
    is_non_input c.coded-coded.result.now.graph.signals c.signals-signals.result.now c.loop-i.i
    c.index-signals-i.result c.is_driven.result same
    c.loop-i-test.true c.index-signals-i.is
    (c.is_driven.ensures ∙ ap (λ (x : Signal). is_driven x.kind) (sym c.index-signals-i.is)) c.if-not-is_driven.false
