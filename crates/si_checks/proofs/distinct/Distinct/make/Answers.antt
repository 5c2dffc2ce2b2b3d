use Rattle.std.proofs.Common.{subst}
use Rattle.si_base.specs.Codes.{CodedGraph}
use Rattle.si_base.specs.Proper.{HasNoConflict}
use Rattle.si_checks.proofs.distinct.Distinct.make.Goals as goal

pub invariant_of-result : goal.invariant_of-result
invariant_of-result c =
    let P : CodedGraph → Type 0 = λ g. HasNoConflict g in
    record { distinct = subst P c.coded.ensures.same (rw c.in-Ok-None.field-0-is at c.in-Ok-None.ensures) }
