use Rattle.si_circuit.proofs.GateLemmas.{chosen_is_netlist}
use Rattle.si_circuit.proofs.laws.chosen_gates_make_netlists.Goals as goal

pub returns : goal.returns
returns c = chosen_is_netlist
