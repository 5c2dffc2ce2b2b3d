use Rattle.si_lint.proofs.LintTexts.{one_lint_text, some_lint_text}
use Rattle.si_lint.proofs.laws.lint_texts.Goals as goal

pub returns-clause-unique : goal.returns-clause-unique
returns-clause-unique c = one_lint_text

pub returns-clause-exist : goal.returns-clause-exist
returns-clause-exist c = some_lint_text
