use Rattle.si_explain.proofs.ExplainTexts.{sources_show_joined, no_source_shows_none}
use Rattle.si_explain.proofs.laws.shown_sources.Goals as goal

pub returns-clause-joined : goal.returns-clause-joined
returns-clause-joined c = sources_show_joined

pub returns-clause-none : goal.returns-clause-none
returns-clause-none c = no_source_shows_none
