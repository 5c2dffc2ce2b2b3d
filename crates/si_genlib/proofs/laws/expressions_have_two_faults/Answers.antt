use Rattle.si_genlib.proofs.GrammarViableLaws.{kinds}
use Rattle.si_genlib.proofs.laws.expressions_have_two_faults.Goals as goal

pub returns : goal.returns
returns c = kinds
