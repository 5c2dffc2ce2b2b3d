use Rattle.std.proofs.Common.{◌∙◌, sym}
use Rattle.si_breaches.proofs.JumpLemmas.{jump_none, jump_some}
use Rattle.si_breaches.proofs.parities.first_jump.Goals as goal

pub returns-in-None : goal.returns-in-None
returns-in-None c = λ tree. jump_none c.args.graph.now c.arcs-arcs.ensures.graph c.args.last.now
    tree c.args.s c.requires.state (sym c.last_of.ensures ∙ c.in-None.is)

pub returns-in-Some : goal.returns-in-Some
returns-in-Some c = λ tree. rw c.flip.ensures (jump_some c.args.graph.now c.arcs-arcs.ensures.graph c.args.last.now
    tree c.args.s c.requires.state c.in-Some.arc (sym c.last_of.ensures ∙ c.in-Some.is))
