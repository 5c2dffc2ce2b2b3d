use Rattle.si_suggestion.proofs.SuggestedTexts.{suggested_are_refused_alike, suggested_texts_serve, suggestions_are_resolved}
use Rattle.si_suggestion.proofs.laws.suggested_texts_serve_as_given.Goals as goal

pub returns-clause-serve : goal.returns-clause-serve
returns-clause-serve c = suggested_texts_serve

pub returns-clause-resolved : goal.returns-clause-resolved
returns-clause-resolved c = suggestions_are_resolved

pub returns-clause-alike : goal.returns-clause-alike
returns-clause-alike c = suggested_are_refused_alike
