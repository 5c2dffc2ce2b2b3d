use Rattle.si_conflicts.proofs.KeyPairs.{as_many}
use Rattle.si_conflicts.proofs.conflicts.count.Goals as goal

pub returns : goal.returns
returns c = as_many c.args.graph.now c.graph-graph.ensures.coded.values c.in_ok-keys.keys.items c.in_ok-n.n
    c.in_ok-keys.ensures (rw c.as_slice.ensures.value at c.in_ok-n.ensures.is)
