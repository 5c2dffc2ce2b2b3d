use Rattle.std.proofs.Common.{sym, subst, ◌∙◌}
use Rattle.si_base.specs.Proper.{HasNoConflict}
use Rattle.si_insert.specs.Lineage.{History}
use Rattle.si_suggestion.proofs.SuggestedLineages.{told_again}
use Rattle.si_suggestion.proofs.mapped.lineage_again.Goals as goal

pub known-requires : goal.known-requires
known-requires c =
    let given = c.args.given in
    let is = c.requires.suggested.1 in
    let same =
    told_again given.graph c.args.states.now given c.requires.sound c.requires.count c.requires.apart
    c.args.circuit.now c.requires.suggested.0 is c.in-Ok.lineage (rw c.netlist.ensures.same at c.in-Ok.ensures.taken) in
    subst (λ (l : History). HasNoConflict l.current.coded) (is.lineage_is ∙ sym same) is.suggestion.free

pub returns-in-Ok : goal.returns-in-Ok
returns-in-Ok c =
    let given = c.args.given in
    c.known.ensures
    ∙ told_again given.graph c.args.states.now given c.requires.sound c.requires.count c.requires.apart
    c.args.circuit.now c.requires.suggested.0 c.requires.suggested.1 c.in-Ok.lineage
    (rw c.netlist.ensures.same at c.in-Ok.ensures.taken)
