use Rattle.si_suggestion.proofs.SuggestedTexts.{map_suggested_some, resolve_suggested_some}
use Rattle.si_suggestion.proofs.laws.suggested_insertions_end.Goals as goal

pub returns-clause-graphs : goal.returns-clause-graphs
returns-clause-graphs c = resolve_suggested_some

pub returns-clause-cells : goal.returns-clause-cells
returns-clause-cells c = map_suggested_some
