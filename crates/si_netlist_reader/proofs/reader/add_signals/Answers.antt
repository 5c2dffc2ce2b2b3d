use Rattle.si_netlist_reader.proofs.SignalLemmas.{one_more}
use Rattle.si_netlist_reader.proofs.reader.add_signals.Goals as goal

pub loop-k-preserved : goal.loop-k-preserved
loop-k-preserved c = one_more c.args.kind c.args.names.now c.args.from c.loop-k.k c.get.result.now _ _ _ _
    c.loop-k.auto.k c.get.ensures c.in_ok-name.ensures c.loop-k.invariant c.in_ok-push.ensures.items
