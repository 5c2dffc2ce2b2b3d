use Rattle.si_equations.specs.Equations.{signals}
use Rattle.si_equations_reader.specs.Held.{progress_now}
use Rattle.si_equations_reader.proofs.ValueLemmas.{value_there}
use Rattle.si_equations_reader.proofs.equations.Equations.value.Goals as goal

pub returns : goal.returns
returns c = value_there c.args.self.now.read.signals (signals (progress_now c.args.self.now.read)) c.args.values
    c.args.self.now.read.equations.items c.args.k c.at-equation.result.now c.deref.result.now c.in_ok-value.value
    c.at-equation.ensures c.args.self.now.signals c.deref.ensures.value c.in_ok-value.ensures
