use Rattle.std.proofs.Common.{arith, subst}
use Rattle.si_resolve.specs.Loops.Progress.{NoneIsBelow}
use Rattle.si_resolve.proofs.SearchLemmas.{none_by_crowd}
use Rattle.si_resolve.proofs.search.Search.shares_crowd.Goals as goal

pub share_crowd-requires-clause-i : goal.share_crowd-requires-clause-i
share_crowd-requires-clause-i c = omega (arith, c.requires.i_within, c.requires.list.crowds.count)

pub share_crowd-requires-clause-j : goal.share_crowd-requires-clause-j
share_crowd-requires-clause-j c = omega (arith, c.requires.j_within, c.requires.list.crowds.count)

pub returns : goal.returns
returns c = λ shared.
    let r = c.requires in
    let d = c.args.graph.now in
    let list = c.args.list.now in
    subst (NoneIsBelow d list.blocks.items c.args.i c.args.j) c.bar.ensures
    (none_by_crowd d list c.args.i c.args.j c.bar.result r.list r.i_within r.j_within
    (c.share_crowd.ensures.0 shared))
