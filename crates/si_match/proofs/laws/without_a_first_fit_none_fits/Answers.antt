use Rattle.si_match.proofs.FitLemmas.{none_fits}
use Rattle.si_match.proofs.laws.without_a_first_fit_none_fits.Goals as goal

pub returns : goal.returns
returns c = none_fits
