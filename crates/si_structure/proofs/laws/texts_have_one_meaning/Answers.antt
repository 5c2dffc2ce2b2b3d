use Rattle.si_structure.proofs.OneMeaning.{one_meaning}
use Rattle.si_structure.proofs.laws.texts_have_one_meaning.Goals as goal

pub returns : goal.returns
returns c = one_meaning
