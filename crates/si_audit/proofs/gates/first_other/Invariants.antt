use Rattle.si_base.specs.Codes.{next_value}
use Rattle.si_base.specs.Sets.{flag}
use Rattle.si_audit.specs.Loops.Columns.{Agree}
use Rattle.si_audit.proofs.gates.first_other.Given as goal

abbrev pub invariant-loop-s : goal.invariant-loop-s
invariant-loop-s l = Agree l.s (flag l.values) (λ s. next_value l.coded s l.z)
