use Rattle.si_match.proofs.SupportLemmas.{support_determines}
use Rattle.si_match.proofs.laws.supports_determine.Goals as goal

pub returns : goal.returns
returns c = support_determines
