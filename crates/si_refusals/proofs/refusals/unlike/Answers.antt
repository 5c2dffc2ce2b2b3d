use Rattle.std.proofs.Common.{◌≡◌, ℕ, List, [], ◌∷◌, ◌++◌, append_assoc, codes, ap, sym, ◌∙◌}
use Rattle.si_base.specs.Words.{line}
use Rattle.si_words.specs.Loops.Writing.{spaced}
use Rattle.si_words.proofs.WritingLemmas.{joined_words}
use Rattle.si_refusals.proofs.refusals.unlike.Goals as goal

regrouped : (head file event one other rest : List ℕ)
    → ((((head ++ 32 ∷ file) ++ 32 ∷ event) ++ 32 ∷ one) ++ 32 ∷ other) ++ rest
    ≡ head ++ 32 ∷ (file ++ 32 ∷ (event ++ 32 ∷ (one ++ 32 ∷ (other ++ rest))))
regrouped head file event one other rest =
    append_assoc (((head ++ 32 ∷ file) ++ 32 ∷ event) ++ 32 ∷ one) (32 ∷ other) rest
    ∙ append_assoc ((head ++ 32 ∷ file) ++ 32 ∷ event) (32 ∷ one) (32 ∷ (other ++ rest))
    ∙ append_assoc (head ++ 32 ∷ file) (32 ∷ event) (32 ∷ (one ++ 32 ∷ (other ++ rest)))
    ∙ append_assoc head (32 ∷ file) (32 ∷ (event ++ 32 ∷ (one ++ 32 ∷ (other ++ rest))))

whole : (file event one other : List ℕ) (words : List (List ℕ))
    → (((((codes "unlike" ++ 32 ∷ file) ++ 32 ∷ event) ++ 32 ∷ one) ++ 32 ∷ other) ++ spaced words) ++ 10 ∷ []
    ≡ line (codes "unlike" ∷ file ∷ event ∷ one ∷ other ∷ words)
whole file event one other words =
    ap (λ (t : List ℕ). t ++ 10 ∷ [])
    (regrouped (codes "unlike") file event one other (spaced words)
    ∙ sym (joined_words (codes "unlike") (file ∷ event ∷ one ∷ other ∷ words)))

pub returns : goal.returns
returns c =
    c.in_ok-add.ensures.added
    ∙ rw (
      c.in_ok-add_words.ensures,
      c.in_ok-add_word-4.ensures,
      c.in_ok-add_word-3.ensures,
      c.in_ok-add_word-2.ensures,
      c.in_ok-add_word.ensures,
      c.in_ok-text.ensures,
      c.as_bytes.ensures.value,
      c.bytes.ensures,
      c.bytes-2.ensures,
      c.bytes-3.ensures,
    )
    (whole c.args.file.now c.args.event.now c.args.one.now c.args.other.now c.args.walk.now)
