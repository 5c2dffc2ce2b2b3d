use Rattle.si_handshakes.proofs.NamesNumbered.{signal_added}
use Rattle.si_handshakes.proofs.names.add_signals.Goals as goal

pub loop-k-preserved : goal.loop-k-preserved
loop-k-preserved c =
    signal_added c.args.kind c.args.stem.now c.in_ok-name.name c.args.signals.now.items c.loop-k.signals.items
    c.push.new.self.items c.loop-k.k c.loop-k.invariant c.in_ok-name.ensures c.in_ok-push.ensures.items
