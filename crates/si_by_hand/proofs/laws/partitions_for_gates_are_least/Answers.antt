use Rattle.si_by_hand.proofs.LeastForGates.{least_for_gates}
use Rattle.si_by_hand.proofs.laws.partitions_for_gates_are_least.Goals as goal

pub returns : goal.returns
returns c = least_for_gates
