use Rattle.std.proofs.Common.{reverse, subst}
use Rattle.si_genlib.specs.Expression.{Tree, Outcome}
use Rattle.si_equations_reader.specs.Loops.Machine.{Steps, trees_now}
use Rattle.si_equations_reader.proofs.MachineLemmas.{opens_paren}
use Rattle.si_equations_reader.proofs.machine.Reading.open_paren.Goals as goal

pub returns : goal.returns
returns c = subst (λ (outcome : Outcome Tree). Steps c.open.result c.open.new.self outcome)
    (opens_paren c.args.self.now.operand c.args.self.now.terms c.args.self.now.factors
    (reverse c.args.self.now.unfinished.items) (trees_now c.args.self.now.steps.items) c.requires) c.open.ensures
