use Rattle.std.proofs.Common.{◌≡◌, ℕ, List, [], ◌∷◌, ◌++◌, append_assoc, codes, ap, sym, ◌∙◌}
use Rattle.si_base.specs.Words.{line}
use Rattle.si_words.specs.Loops.Writing.{spaced}
use Rattle.si_words.proofs.WritingLemmas.{joined_words}
use Rattle.si_refusals.proofs.refusals.interfering.Goals as goal

regrouped : (head event driver refuser rest : List ℕ)
    → (((head ++ 32 ∷ event) ++ 32 ∷ driver) ++ 32 ∷ refuser) ++ rest
    ≡ head ++ 32 ∷ (event ++ 32 ∷ (driver ++ 32 ∷ (refuser ++ rest)))
regrouped head event driver refuser rest =
    append_assoc ((head ++ 32 ∷ event) ++ 32 ∷ driver) (32 ∷ refuser) rest
    ∙ append_assoc (head ++ 32 ∷ event) (32 ∷ driver) (32 ∷ (refuser ++ rest))
    ∙ append_assoc head (32 ∷ event) (32 ∷ (driver ++ 32 ∷ (refuser ++ rest)))

whole : (event driver refuser : List ℕ) (words : List (List ℕ))
    → ((((codes "interferes" ++ 32 ∷ event) ++ 32 ∷ driver) ++ 32 ∷ refuser) ++ spaced words) ++ 10 ∷ []
    ≡ line (codes "interferes" ∷ event ∷ driver ∷ refuser ∷ words)
whole event driver refuser words =
    ap (λ (t : List ℕ). t ++ 10 ∷ [])
    (regrouped (codes "interferes") event driver refuser (spaced words)
    ∙ sym (joined_words (codes "interferes") (event ∷ driver ∷ refuser ∷ words)))

pub returns : goal.returns
returns c =
    c.in_ok-add.ensures.added
    ∙ rw (
      c.in_ok-add_words.ensures,
      c.in_ok-add_word-3.ensures,
      c.in_ok-add_word-2.ensures,
      c.in_ok-add_word.ensures,
      c.in_ok-text.ensures,
      c.as_bytes.ensures.value,
      c.as_bytes-2.ensures.value,
      c.bytes.ensures,
    )
    (whole c.args.event.now c.args.driver.now c.args.refuser.now c.args.at.now)
