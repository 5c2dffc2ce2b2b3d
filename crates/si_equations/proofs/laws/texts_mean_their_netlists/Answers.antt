use Rattle.si_equations.proofs.MeansLemmas.{text_means}
use Rattle.si_equations.proofs.laws.texts_mean_their_netlists.Goals as goal

pub returns : goal.returns
returns c = text_means
