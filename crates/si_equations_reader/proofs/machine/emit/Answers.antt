use Rattle.si_equations_reader.proofs.MachineLemmas.{trees_push}
use Rattle.si_equations_reader.proofs.machine.emit.Goals as goal

pub returns : goal.returns
returns c = trees_push _ _ _ c.in_ok-push.ensures.items
