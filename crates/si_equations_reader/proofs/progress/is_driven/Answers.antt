use Rattle.std.proofs.Common.{rules, tests, ◌∙◌, bytes_eq, map}
use Rattle.std.proofs.lemmas.Iterator.{YieldsList-from_slice}
use Rattle.std.proofs.lemmas.Iterator.Search.{any_from_yields_List}
use Rattle.si_words.proofs.SumWordLemmas.{list_any-map}
use Rattle.si_equations.specs.Equations.{Equation}
use Rattle.si_equations_reader.specs.Held.{equation_now}
use Rattle.si_equations_reader.specs.declared.progress.Equation.{Equation as EquationHeld}
use Rattle.si_equations_reader.proofs.progress.is_driven.Goals as goal

pub returns : goal.returns
returns c = any_from_yields_List {all = c.args.equations.now}
    (λ (q : EquationHeld). bytes_eq c.args.name.now q.name.now) _ _ _
    c.any.ensures.ran (YieldsList-from_slice c.args.equations.now cc) (λ x b q k. search (rules, tests))
    ∙ list_any-map equation_now (λ (q : Equation). bytes_eq c.args.name.now q.name) c.args.equations.now
    ∙ list_any-map (λ (q : Equation). q.name) (bytes_eq c.args.name.now) (map equation_now c.args.equations.now)
