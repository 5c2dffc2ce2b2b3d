use Rattle.std.proofs.Common.{◌∙◌, sym, subst}
use Rattle.si_base.specs.Proper.{HasNoConflict}
use Rattle.si_handshakes.proofs.HandshakeRefusals.{never_in_conflict}
use Rattle.si_insert.specs.Lineage.{History}
use Rattle.si_exercise.proofs.exercise.resolved_as_given.Goals as goal

pub unreachable-requires : goal.unreachable-requires
unreachable-requires c =
    let fault = c.in-Err-default-Conflict in
    let Free : History → Type 0 = λ l. HasNoConflict l.current.coded in
    let free = subst Free (sym c.in-Ok.ensures.line) c.requires.free in
    let none = never_in_conflict c.in-Ok.lineage.current.coded fault.field-0-1 free fault.ensures.fault in
    let clash = sym fault.field-0-1-is ∙ none in
    cc clash
