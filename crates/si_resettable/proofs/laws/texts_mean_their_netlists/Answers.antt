use Rattle.si_resettable.proofs.ModuleLemmas.{text_means, text_means_only}
use Rattle.si_resettable.proofs.laws.texts_mean_their_netlists.Goals as goal

pub returns : goal.returns
returns c = record { means = text_means; only = text_means_only }
