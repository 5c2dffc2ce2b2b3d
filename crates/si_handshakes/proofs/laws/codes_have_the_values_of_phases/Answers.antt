use Rattle.si_handshakes.proofs.HandshakeProper.{values_of_phases}
use Rattle.si_handshakes.proofs.laws.codes_have_the_values_of_phases.Goals as goal

pub returns : goal.returns
returns c n sg coded is = values_of_phases n sg is coded
