use Rattle.si_sg.proofs.UniqueLemmas.{dropped_unique}
use Rattle.si_sg.proofs.laws.texts_drop_one_list.Goals as goal

pub returns : goal.returns
returns c = dropped_unique
