use Rattle.si_equations.specs.Equations.{Equation}
use Rattle.si_equations_reader.proofs.ValueLemmas.{at_place}
use Rattle.si_equations_reader.proofs.equations.Equations.line.Goals as goal

pub returns : goal.returns
returns c = at_place (λ (q : Equation). q.line) c.args.self.now.read.equations.items c.args.k c.at.result.now
    c.at.ensures
