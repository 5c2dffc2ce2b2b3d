use Rattle.si_by_hand.proofs.OwnValues.{gates_make}
use Rattle.si_by_hand.proofs.laws.gates_make_their_signals.Goals as goal

pub returns : goal.returns
returns c = gates_make
