use Rattle.std.proofs.Common.{◌≡◌, ◌+◌, ◌∷◌, [], ◌++◌, ◌∙◌, ℕ, get_or, take, sym, ap, arith}
use Rattle.std.proofs.lemmas.List.{get_or_default}
use Rattle.si_joins.specs.Lifted.{letters}
use Rattle.si_joins.proofs.NameLemmas.{letters_digit, letters_other}
use Rattle.si_works.proofs.EachLemmas.{next, taken_more}
use Rattle.si_joins.proofs.names.letters.Goals as goal
use Rattle.si_joins.proofs.names.letters.Goals.{then-not-is_digit, else-not-is_digit}

pub loop-k-preserved : goal.loop-k-preserved
loop-k-preserved c =
    let name = c.args.name.now in
    let k = c.loop-k.k in
    let b : ℕ = get_or name k 0 in
    let at : b ≡ get_or name k b = get_or_default name k 0 b c.loop-k-test.true in
    let more : take (k + 1) name ≡ take k name ++ b ∷ [] =
    ap (λ (n : ℕ). take n name) (next k) ∙ taken_more name k b c.loop-k-test.true at in
    let low = c.loop-k.invariant.1 in
    elim c.if-not-is_digit.branch [
      | then-not-is_digit w ↦ (
        ap (λ (n : ℕ). take n name) w.end-is ∙ more
            ∙ sym (ap letters more ∙ letters_other (take k name) b (sym c.is_digit.ensures ∙ w.if-not-is_digit.true)),
        omega (arith, w.end-is),
      )
      | else-not-is_digit w ↦ (
        ap (λ (n : ℕ). take n name) w.end-is ∙ c.loop-k.invariant.0
            ∙ sym (ap letters more ∙ letters_digit (take k name) b (sym c.is_digit.ensures ∙ w.if-not-is_digit.false)),
        omega (arith, w.end-is, low),
      )
    ]
