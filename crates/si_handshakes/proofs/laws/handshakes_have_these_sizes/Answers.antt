use Rattle.si_handshakes.proofs.HandshakeSizes.{so_many_arcs}
use Rattle.si_handshakes.proofs.laws.handshakes_have_these_sizes.Goals as goal

pub returns-clause-arcs : goal.returns-clause-arcs
returns-clause-arcs c = so_many_arcs
