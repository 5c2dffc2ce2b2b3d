use Rattle.si_handshakes.proofs.HandshakesExist.{some_handshakes}
use Rattle.si_handshakes.proofs.laws.handshakes_exist.Goals as goal

pub returns : goal.returns
returns c n few = some_handshakes n few
