use Rattle.std.proofs.Common.{sym, ◌∙◌}
use Rattle.si_from_equations.specs.Beside as spec
use Rattle.si_from_equations.proofs.PlaceLemmas.{all_behind, all_stops}
use Rattle.si_from_equations.proofs.signals.has_all_inputs.Goals as goal

pub returns-then-not-has_name : goal.returns-then-not-has_name
returns-then-not-has_name c = all_stops (spec.has_name c.args.signals.now) c.inputs-inputs.result.now c.loop-k.k
    c.get.result.now _ c.get.ensures (sym c.has_name.ensures ∙ c.if-not-has_name.true) c.loop-k.invariant

pub loop-k-preserved : goal.loop-k-preserved
loop-k-preserved c = all_behind (spec.has_name c.args.signals.now) c.inputs-inputs.result.now c.loop-k.k
    c.get.result.now _ c.get.ensures (sym c.has_name.ensures ∙ c.if-not-has_name.false) c.loop-k.invariant
