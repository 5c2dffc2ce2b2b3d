use Rattle.std.proofs.Common.{◌<◌, ◌∙◌, length, arith}
use Rattle.si_candidates.specs.Parts.{AreClasses, HaveNoClasses}
use Rattle.si_resolve.proofs.SearchLemmas.{at_blocks, block_size, candidate_accepted, none_is, some_is}
use Rattle.si_resolve.proofs.search.accepted_candidate.Goals as goal

pub classes_by_sides-requires-clause-plus_size : goal.classes_by_sides-requires-clause-plus_size
classes_by_sides-requires-clause-plus_size c =
    let r = c.requires in
    let within : c.args.i < length c.args.list.now.blocks.items = omega (arith, r.order, r.within) in
    block_size c.args.graph.now c.args.list.now.blocks.items c.args.i _ r.list.are within
    (c.set.ensures ∙ c.block.ensures)

pub classes_by_sides-requires-clause-minus_size : goal.classes_by_sides-requires-clause-minus_size
classes_by_sides-requires-clause-minus_size c =
    let r = c.requires in
    block_size c.args.graph.now c.args.list.now.blocks.items c.args.j _ r.list.are r.within
    (c.set-2.ensures ∙ c.block-2.ensures)

pub known-requires : goal.known-requires
known-requires c =
    let d = c.args.graph.now in
    let blocks = c.args.list.now.blocks.items in
    let r = c.requires in
    let partition = c.in-Some.partition in
    let found = some_is _ c.in_ok-by_sides.by_sides partition c.in-Some.is c.in_ok-by_sides.ensures.classes in
    candidate_accepted d blocks c.args.i c.args.j r.list.coded r.list.proper r.list.few_signals r.list.are
    r.order r.within r.first r.later r.both partition
    (at_blocks (λ plus minus. AreClasses d.graph plus minus partition) _ _ _ _
    (c.set.ensures ∙ c.block.ensures) (c.set-2.ensures ∙ c.block-2.ensures) found)

pub returns-in-None-clause-none : goal.returns-in-None-clause-none
returns-in-None-clause-none c =
    at_blocks (HaveNoClasses c.args.graph.now.graph) _ _ _ _
    (c.set.ensures ∙ c.block.ensures) (c.set-2.ensures ∙ c.block-2.ensures)
    (none_is c.in_ok-by_sides.by_sides c.in-None.is c.in_ok-by_sides.ensures.none)

pub returns-in-Some-clause-classes : goal.returns-in-Some-clause-classes
returns-in-Some-clause-classes c =
    let d = c.args.graph.now in
    let partition = c.in-Some.partition in
    let found = some_is _ c.in_ok-by_sides.by_sides partition c.in-Some.is c.in_ok-by_sides.ensures.classes in
    rw c.known.ensures (at_blocks (λ plus minus. AreClasses d.graph plus minus partition) _ _ _ _
    (c.set.ensures ∙ c.block.ensures) (c.set-2.ensures ∙ c.block-2.ensures) found)
