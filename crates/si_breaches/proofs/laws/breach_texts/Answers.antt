use Rattle.si_breaches.proofs.BreachTexts.{one_breach_text, some_breach_text}
use Rattle.si_breaches.proofs.FirstTold.{first_told}
use Rattle.si_breaches.proofs.laws.breach_texts.Goals as goal

pub returns-clause-unique : goal.returns-clause-unique
returns-clause-unique c = one_breach_text

pub returns-clause-exist : goal.returns-clause-exist
returns-clause-exist c = some_breach_text

pub returns-clause-first : goal.returns-clause-first
returns-clause-first c = first_told
