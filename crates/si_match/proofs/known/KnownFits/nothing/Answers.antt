use Rattle.si_match.proofs.KnownLemmas.{nothing_known}
use Rattle.si_match.proofs.known.KnownFits.nothing.Goals as goal

pub returns-clause-known : goal.returns-clause-known
returns-clause-known c = λ d library is. nothing_known d library _ c.ones.ensures is
