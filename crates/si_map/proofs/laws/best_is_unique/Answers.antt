use Rattle.si_map.proofs.OneBest.{one_best}
use Rattle.si_map.proofs.laws.best_is_unique.Goals as goal

pub returns : goal.returns
returns c = one_best
