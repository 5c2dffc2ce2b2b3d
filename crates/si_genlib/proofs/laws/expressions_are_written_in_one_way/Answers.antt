use Rattle.si_genlib.proofs.GrammarUnique.{one_way}
use Rattle.si_genlib.proofs.laws.expressions_are_written_in_one_way.Goals as goal

pub returns : goal.returns
returns c = one_way
