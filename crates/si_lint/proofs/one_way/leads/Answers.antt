use Rattle.std.proofs.Common.{arith}
use Rattle.si_lint.proofs.OneWayLemmas.{leads_told}
use Rattle.si_lint.proofs.one_way.leads.Goals as goal

pub distance-requires : goal.distance-requires
distance-requires c = omega (arith, c.requires.state, c.requires.distances.size)

pub returns : goal.returns
returns c =
    let g = c.args.graph.now in
    rw (c.is_some.ensures, c.distance.ensures)
    (leads_told g c.args.s g.start _ (c.requires.distances.each c.args.s c.requires.state))
