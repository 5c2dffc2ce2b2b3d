use Rattle.std.proofs.Common.{◌≡◌, ℕ, List, [], ◌∷◌, ◌++◌, append_assoc, codes, ap, sym, ◌∙◌}
use Rattle.si_base.specs.Words.{line}
use Rattle.si_circuit.specs.InsertionWords.{all_insertion_words}
use Rattle.si_words.specs.Loops.Writing.{spaced}
use Rattle.si_words.proofs.WritingLemmas.{joined_words}
use Rattle.si_refusals.proofs.refusals.unmapped.Goals as goal

regrouped : (head signal rest : List ℕ) → ((head ++ 32 ∷ signal) ++ rest) ++ 10 ∷ [] ≡ (head ++ 32 ∷ (signal ++ rest))
    ++ 10 ∷ []
regrouped head signal rest = simp append_assoc

whole : (signal : List ℕ) (words : List (List ℕ))
    → ((codes "unmapped" ++ 32 ∷ signal) ++ spaced words) ++ 10 ∷ [] ≡ line (codes "unmapped" ∷ signal ∷ words)
whole signal words =
    regrouped (codes "unmapped") signal (spaced words)
    ∙ ap (λ (t : List ℕ). t ++ 10 ∷ []) (sym (joined_words (codes "unmapped") (signal ∷ words)))

pub returns : goal.returns
returns c =
    c.in_ok-add.ensures.added
    ∙ rw (c.in_ok-add_insertions.ensures, c.in_ok-add_word.ensures, c.in_ok-text.ensures, c.bytes.ensures)
    (whole c.args.signal.now (all_insertion_words c.args.inserts.now))
