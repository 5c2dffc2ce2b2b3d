use Rattle.std.proofs.Common.{◌≡◌, ℕ, zero, suc, ◌+◌, ◌<◌, List, [], ◌∷◌, ◌++◌, length, take, get_or, refl, sym, ap, ◌∙◌}
use Rattle.std.proofs.Common.{Bor, arith, add-one, append_assoc}
use Rattle.si_words.specs.Loops.Reads.{words_now}
use Rattle.si_refusals.proofs.rejection.add_all.Goals as goal

-- the words up to one, and that one
one_more : (more : List (Bor (List ℕ))) (i : ℕ) (d : Bor (List ℕ)) → i < length more
    → take (suc i) (words_now more) ≡ take i (words_now more) ++ (get_or more i d).now ∷ []
one_more [] i d within = absurd (omega (arith, within))
one_more (w ∷ ws) zero d within = refl
one_more (w ∷ ws) (suc i) d within = ap (λ (t : List (List ℕ)). w.now ∷ t) (one_more ws i d (omega (arith, within)))

word_added : (more : List (Bor (List ℕ))) (i : ℕ) (d : Bor (List ℕ)) (old words new : List (List ℕ)) → i < length more
    → words ≡ old ++ take i (words_now more) → new ≡ words ++ (get_or more i d).now ∷ []
    → new ≡ old ++ take (i + 1) (words_now more)
word_added more i d old words new within so_far is =
    let word = (get_or more i d).now in
    is ∙ ap (λ (t : List (List ℕ)). t ++ word ∷ []) so_far
    ∙ append_assoc old (take i (words_now more)) (word ∷ [])
    ∙ ap (λ (t : List (List ℕ)). old ++ t) (sym (rw add-one (one_more more i d within)))

pub loop-word-preserved : goal.loop-word-preserved
loop-word-preserved c =
    word_added _ _ _ _ _ _ c.loop-word-test.true c.loop-word.invariant c.in_ok-push.ensures.added
