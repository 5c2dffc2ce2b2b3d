use Rattle.si_stages.proofs.FoldLaws.{texts_read_back}
use Rattle.si_stages.proofs.fold_laws.fold_texts_read_back.Goals as goal

pub returns : goal.returns
returns c = texts_read_back
