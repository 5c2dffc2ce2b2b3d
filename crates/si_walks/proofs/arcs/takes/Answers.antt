use Rattle.si_walks.proofs.WalkEvents.{takes_inputs}
use Rattle.si_walks.proofs.arcs.takes.Goals as goal

pub returns-in-OfInputs : goal.returns-in-OfInputs
returns-in-OfInputs c = takes_inputs c.args.graph.now c.args.arcs.now c.args.e c.is_driven.result c.in-OfInputs.is
    c.requires c.is_driven.ensures
