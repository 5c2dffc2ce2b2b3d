use Rattle.si_map.proofs.EndLemmas.{all_not_first, all_or_first, first_is_one}
use Rattle.si_map.proofs.laws.signals_fit_or_not.Goals as goal

pub returns : goal.returns
returns c = record { some = all_or_first; one = first_is_one; apart = all_not_first }
