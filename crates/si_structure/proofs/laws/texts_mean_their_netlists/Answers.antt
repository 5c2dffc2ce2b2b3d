use Rattle.si_structure.proofs.TextLemmas.{text_means, text_means_only}
use Rattle.si_structure.proofs.laws.texts_mean_their_netlists.Goals as goal

pub returns : goal.returns
returns c = record { means = text_means; only = text_means_only }
