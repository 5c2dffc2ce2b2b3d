use Rattle.si_suggestion.proofs.SuggestionLaws.{never_is_not_suggested, resolved_is_suggested}
use Rattle.si_suggestion.proofs.SuggestionsExist.{suggest_some}
use Rattle.si_suggestion.proofs.suggested.suggestions_are_sure.Goals as goal

pub returns-clause-resolved : goal.returns-clause-resolved
returns-clause-resolved c = resolved_is_suggested

pub returns-clause-never : goal.returns-clause-never
returns-clause-never c = never_is_not_suggested

pub returns-clause-exist : goal.returns-clause-exist
returns-clause-exist c = suggest_some
