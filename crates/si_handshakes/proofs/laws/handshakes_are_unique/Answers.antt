use Rattle.si_handshakes.proofs.HandshakeSizes.{one_graph}
use Rattle.si_handshakes.proofs.laws.handshakes_are_unique.Goals as goal

pub returns : goal.returns
returns c = one_graph
