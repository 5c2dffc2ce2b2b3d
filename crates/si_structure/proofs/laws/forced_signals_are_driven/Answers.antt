use Rattle.si_structure.proofs.ResetLemmas.{forced_is_driven}
use Rattle.si_structure.proofs.laws.forced_signals_are_driven.Goals as goal

pub returns : goal.returns
returns c = forced_is_driven
