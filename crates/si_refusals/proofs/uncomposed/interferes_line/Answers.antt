use Rattle.std.proofs.Common.{◌≡◌, ℕ, List, [], ◌∷◌, ◌++◌, append_assoc, codes, ap, sym, ◌∙◌}
use Rattle.std.proofs.lemmas.Grind.{flat_map-append}
use Rattle.si_base.specs.Words.{line}
use Rattle.si_words.specs.Loops.Writing.{spaced}
use Rattle.si_words.proofs.WritingLemmas.{joined_words}
use Rattle.si_refusals.proofs.uncomposed.interferes_line.Goals as goal

regrouped : (head states event walk : List ℕ)
    → ((head ++ states) ++ 32 ∷ event) ++ walk ≡ head ++ (states ++ 32 ∷ (event ++ walk))
regrouped head states event walk =
    append_assoc (head ++ states) (32 ∷ event) walk ∙ append_assoc head states (32 ∷ (event ++ walk))

whole : (states : List (List ℕ)) (event : List ℕ) (walk : List (List ℕ))
    → (((codes "interferes" ++ spaced states) ++ 32 ∷ event) ++ spaced walk) ++ 10 ∷ []
    ≡ line (codes "interferes" ∷ (states ++ event ∷ walk))
whole states event walk =
    ap (λ (t : List ℕ). t ++ 10 ∷ [])
    (regrouped (codes "interferes") (spaced states) event (spaced walk)
    ∙ ap (λ (t : List ℕ). codes "interferes" ++ t) (sym (flat_map-append (λ w. 32 ∷ w) states (event ∷ walk)))
    ∙ sym (joined_words (codes "interferes") (states ++ event ∷ walk)))

pub returns : goal.returns
returns c =
    c.in_ok-add.ensures.added
    ∙ rw (
      c.in_ok-add_words-2.ensures,
      c.in_ok-add_word.ensures,
      c.in_ok-add_words.ensures,
      c.in_ok-text.ensures,
      c.bytes.ensures,
    )
    (whole c.args.states.now c.args.event.now c.args.walk.now)
