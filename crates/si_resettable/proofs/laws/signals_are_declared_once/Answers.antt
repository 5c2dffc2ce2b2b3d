use Rattle.si_resettable.proofs.ModuleLemmas.{all_declared}
use Rattle.si_resettable.proofs.laws.signals_are_declared_once.Goals as goal

pub returns : goal.returns
returns c = all_declared
