use Rattle.si_handshakes.proofs.HandshakeSizes.{within_limits}
use Rattle.si_handshakes.proofs.laws.handshakes_are_within_limits.Goals as goal

pub returns : goal.returns
returns c n sg few is = within_limits n sg is few
