use Rattle.si_genlib.proofs.ExpressionOperators.{popped}
use Rattle.si_equations_reader.proofs.machine.pop.Goals as goal

pub returns : goal.returns
returns c = popped _ _ c.pop.result c.args.unfinished.now.len c.args.unfinished.now.ok.0
    c.pop.ensures.items c.pop.ensures.variant
