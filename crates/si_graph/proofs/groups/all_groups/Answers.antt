use Rattle.std.proofs.Common.{◌≡◌, arith}
use Rattle.si_graph.proofs.GroupLemmas.{groups_more, groups_all}
use Rattle.si_graph.proofs.groups.all_groups.Goals as goal

pub loop-s-preserved : goal.loop-s-preserved
loop-s-preserved c = rw (c.in_ok-extend_from_slice.ensures.items, c.as_slice.ensures.value)
    (groups_more _ _ _ _ c.loop-s.invariant c.in_ok-take_group.ensures)

pub returns : goal.returns
returns c =
    let all : c.loop-s.s ≡ c.args.states = omega arith in
    groups_all _ _ _ c.requires.within (rw all at c.loop-s.invariant)
