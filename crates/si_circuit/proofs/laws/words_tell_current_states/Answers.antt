use Rattle.si_circuit.proofs.SpellingTellsStates.{one_word}
use Rattle.si_circuit.proofs.laws.words_tell_current_states.Goals as goal

pub returns : goal.returns
returns c states l lineage count apart = one_word states l lineage count apart
