use Rattle.si_match.proofs.FitLemmas.{fit_fits}
use Rattle.si_match.proofs.laws.the_first_fit_fits.Goals as goal

pub returns : goal.returns
returns c = fit_fits
