use Rattle.si_suggest.proofs.NeverLemmas.{never_resolved}
use Rattle.si_suggest.proofs.never.never_is_never_resolved.Goals as goal

pub returns : goal.returns
returns c = never_resolved
