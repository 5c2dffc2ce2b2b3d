use Rattle.si_equations_reader.proofs.ValueLemmas.{tree_there}
use Rattle.si_equations_reader.proofs.equations.Equations.steps.Goals as goal

pub returns : goal.returns
returns c = tree_there c.args.self.now.read.equations.items c.args.k c.at.result.now c.deref.result.now c.at.ensures
    c.deref.ensures.value
