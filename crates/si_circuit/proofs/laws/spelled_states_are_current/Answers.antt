use Rattle.si_circuit.proofs.SpellingDescents.{descents_are}
use Rattle.si_circuit.proofs.laws.spelled_states_are_current.Goals as goal

pub returns : goal.returns
returns c given trace v lineage = descents_are given trace v lineage
