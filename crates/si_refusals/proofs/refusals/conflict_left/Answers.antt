use Rattle.std.proofs.Common.{◌≡◌, ℕ, List, ◌∷◌, ◌++◌, append_assoc, codes, ◌∙◌}
use Rattle.si_circuit.specs.InsertionWords.{all_insertion_words}
use Rattle.si_words.specs.Loops.Writing.{spaced}
use Rattle.si_refusals.proofs.refusals.conflict_left.Goals as goal

regrouped : (head p q rest : List ℕ)
    → ((head ++ 32 ∷ p) ++ 32 ∷ q) ++ rest ≡ head ++ 32 ∷ (p ++ 32 ∷ (q ++ rest))
regrouped head p q rest = simp append_assoc

pub returns : goal.returns
returns c =
    c.in_ok-add_insertions.ensures
    ∙ rw (
      c.in_ok-add_word-2.ensures,
      c.in_ok-add_word.ensures,
      c.in_ok-text.ensures,
      c.bytes.ensures,
      c.bytes-2.ensures,
    )
    (regrouped (codes "unresolved") c.args.p.now c.args.q.now (spaced (all_insertion_words c.args.inserts.now)))
