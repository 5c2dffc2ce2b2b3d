use Rattle.si_handshakes.proofs.NamesWritten.{writable}
use Rattle.si_handshakes.proofs.laws.handshakes_are_writable.Goals as goal

pub returns : goal.returns
returns c = writable
