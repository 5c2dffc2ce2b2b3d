use Rattle.si_handshakes.proofs.HandshakeProper.{proper}
use Rattle.si_handshakes.proofs.laws.handshakes_are_proper.Goals as goal

pub returns : goal.returns
returns c = proper
