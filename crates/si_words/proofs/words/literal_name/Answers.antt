use Rattle.std.proofs.Common.{ap, sym, ◌∙◌, ℕ, ◌++◌, ◌∷◌, []}
use Rattle.std.proofs.lemmas.Bool.{ne_eqb}
use Rattle.si_words.specs.Sums.{literal_name}
use Rattle.si_words.proofs.SumWordLemmas.{marked, no_mark}
use Rattle.si_words.proofs.words.literal_name.Goals as goal

pub returns-then-last-eq39 : goal.returns-then-last-eq39
returns-then-last-eq39 c =
    sym (ap literal_name (c.in-Some.ensures.cases.0 ∙ ap (λ (d : ℕ). c.in-Some.name.now ++ d ∷ []) c.if-last-eq39.true)
    ∙ marked c.in-Some.name.now)

pub returns-else-last-eq39 : goal.returns-else-last-eq39
returns-else-last-eq39 c = c.in-Some.ensures.cases.0
    ∙ sym (no_mark c.in-Some.name.now c.in-Some.last.now (ne_eqb _ _ c.if-last-eq39.false))
    ∙ sym (ap literal_name c.in-Some.ensures.cases.0)
