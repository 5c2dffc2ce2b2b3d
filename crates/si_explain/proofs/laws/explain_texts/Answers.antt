use Rattle.si_explain.proofs.ExplainTexts.{one_explain_text, some_explain_text}
use Rattle.si_explain.proofs.laws.explain_texts.Goals as goal

pub returns-clause-unique : goal.returns-clause-unique
returns-clause-unique c = one_explain_text

pub returns-clause-exist : goal.returns-clause-exist
returns-clause-exist c = some_explain_text
