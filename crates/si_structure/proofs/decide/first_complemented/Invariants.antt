use Rattle.std.proofs.Common.{ℕ, ◌<◌, get_or}
use Rattle.std.specs.Prelude.{IsTrue}
use Rattle.si_base.specs.declared.ids.Literal.{Literal}
use Rattle.si_structure.proofs.decide.first_complemented.Given as goal

abbrev pub invariant-loop-pin : goal.invariant-loop-pin
invariant-loop-pin l = (k : ℕ) (d : Literal) → k < l.pin → IsTrue (get_or l.literals k d).plain
