use Rattle.si_sg.proofs.GivenExists.{some_given}
use Rattle.si_sg.proofs.laws.texts_without_fault_give_graphs.Goals as goal

pub returns : goal.returns
returns c = some_given
