use Rattle.std.proofs.Common.{◌≡◌, ◌<◌, All}
use Rattle.si_base.specs.Limits.{max_signals}
use Rattle.si_settled.proofs.CodeLemmas.{inputs_before}
use Rattle.si_settled.proofs.marks.inputs.Given as goal

abbrev pub invariant-loop-z : goal.invariant-loop-z
invariant-loop-z l = record {
  inputs : l.inputs.items ≡ inputs_before l.signals l.z;
  narrow : All (λ z. z < max_signals) l.inputs.items;
}
