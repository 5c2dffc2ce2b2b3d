use Rattle.si_genlib.proofs.GrammarViableLaws.{bad_expressions}
use Rattle.si_genlib.proofs.laws.bad_expressions_cannot_go_on.Goals as goal

pub returns : goal.returns
returns c = bad_expressions
