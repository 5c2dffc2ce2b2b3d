use Rattle.si_sg.proofs.GivenExists.{some_dropped}
use Rattle.si_sg.proofs.laws.texts_without_fault_drop_states.Goals as goal

pub returns : goal.returns
returns c = some_dropped
