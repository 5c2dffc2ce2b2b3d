use Rattle.si_genlib.proofs.GrammarViableLaws.{deep_expressions}
use Rattle.si_genlib.proofs.laws.deep_expressions_have_too_many_operators.Goals as goal

pub returns : goal.returns
returns c = deep_expressions
