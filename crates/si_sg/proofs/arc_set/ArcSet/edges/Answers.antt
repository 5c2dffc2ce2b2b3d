use Rattle.si_sg.specs.Loops.Tables.{counted_in}
use Rattle.si_sg.proofs.ArcSetLemmas.{made}
use Rattle.si_sg.proofs.arc_set.ArcSet.edges.Goals as goal

pub returns-clause-same : goal.returns-clause-same
returns-clause-same c = made c.new-edges.result.items c.add_counted.new.edges.items c.add_edges.new.edges.items
    (counted_in c.self.inside.counted) c.as_slice.result.now c.self.inside.listed.items
    c.args.self.now c.new-edges.ensures.items c.in_ok-add_counted.ensures
    c.in_ok-add_edges.ensures c.as_slice.ensures.value c.self.view_is
