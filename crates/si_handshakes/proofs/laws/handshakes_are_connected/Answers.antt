use Rattle.si_handshakes.proofs.HandshakeProper.{connected}
use Rattle.si_handshakes.proofs.laws.handshakes_are_connected.Goals as goal

pub returns : goal.returns
returns c = connected
