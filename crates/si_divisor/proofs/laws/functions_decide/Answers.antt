use Rattle.si_divisor.proofs.SameFunction as same
use Rattle.si_divisor.proofs.laws.functions_decide.Goals as goal

pub returns : goal.returns
returns c = same.functions_decide
