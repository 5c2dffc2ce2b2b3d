use Rattle.std.proofs.Common.{ap, ◌∙◌, ℕ, ◌++◌, ◌∷◌, []}
use Rattle.std.proofs.lemmas.Bool.{ne_eqb}
use Rattle.si_equations.specs.Names.{before_bracket}
use Rattle.si_equations_reader.proofs.NameLemmas.{before_closed, before_open}
use Rattle.si_equations_reader.proofs.names.before_bracket.Goals as goal

pub returns-then-last-eq93 : goal.returns-then-last-eq93
returns-then-last-eq93 c =
    ap before_bracket (c.in-Some.ensures.cases.0 ∙ ap (λ (d : ℕ). c.in-Some.before.now ++ d ∷ []) c.if-last-eq93.true)
    ∙ before_closed c.in-Some.before.now

pub returns-else-last-eq93 : goal.returns-else-last-eq93
returns-else-last-eq93 c = ap before_bracket c.in-Some.ensures.cases.0
    ∙ before_open c.in-Some.before.now c.in-Some.last.now (ne_eqb _ _ c.if-last-eq93.false)
