use Rattle.si_equations.proofs.WholeLemmas.{text_whole}
use Rattle.si_equations.proofs.laws.texts_without_fault_are_whole.Goals as goal

pub returns : goal.returns
returns c = text_whole
