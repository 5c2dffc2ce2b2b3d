use Rattle.si_works.proofs.WorksLemmas as lemmas
use Rattle.si_works.proofs.laws.outputs_are_right.Goals as goal

pub returns : goal.returns
returns c = lemmas.outputs_are_right
