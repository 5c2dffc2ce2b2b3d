use Rattle.si_graph.proofs.ValueLemmas.{mask_tells}
use Rattle.si_graph.proofs.values.wrong_at.Goals as goal

pub returns : goal.returns
returns c =
    rw (c.after.view_is, c.to.view_is, c.stuck.view_is)
    (mask_tells c.args.from c.args.to c.set-after.result c.set-stuck.result c.args.event c.set-after.ensures
    (rw c.get.ensures at c.set-stuck.ensures))
