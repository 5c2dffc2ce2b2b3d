use Rattle.std.proofs.Common.{refl}
use Rattle.si_by_hand.proofs.readings.gate_in.Goals as goal

pub returns-in-Err-At-clause-err : goal.returns-in-Err-At-clause-err
returns-in-Err-At-clause-err c =
    ((c.in-Err-At.line, c.in-Err-At.kind), rw c.in-Err-At.field-0-is at c.in-Err-At.ensures.gives, refl)
