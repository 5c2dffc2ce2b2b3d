use Rattle.si_handshakes.proofs.HandshakeProper.{no_conflict}
use Rattle.si_handshakes.proofs.laws.handshakes_have_no_conflict.Goals as goal

pub returns : goal.returns
returns c n sg coded is = no_conflict n sg is coded
