use Rattle.si_composing.proofs.TupleLemmas.{ordered_distinct}
use Rattle.si_systems.specs.Loops.Parts.{sgs_now}
use Rattle.si_systems.proofs.PartLemmas.{composed_tuples, shown_tuple}
use Rattle.si_systems.proofs.compose.composed.Goals as goal

pub with_names-requires-clause-tuples : goal.with_names-requires-clause-tuples
with_names-requires-clause-tuples c =
    composed_tuples (sgs_now c.args.given.now) c.args.parts.now c.requires.given c.requires.sound
    c.in-Ok.composed.tuples.items c.in-Ok.composed.graph c.in-Ok.ensures.composed

pub with_names-requires-clause-distinct : goal.with_names-requires-clause-distinct
with_names-requires-clause-distinct c =
    ordered_distinct c.in-Ok.composed.tuples.items c.in-Ok.ensures.composed.in_order

pub named-requires-clause-tuple : goal.named-requires-clause-tuple
named-requires-clause-tuple c =
    shown_tuple (sgs_now c.args.given.now) c.args.parts.now c.requires.given c.requires.sound c.in-Err.cause
    c.in-Err.ensures.fault
