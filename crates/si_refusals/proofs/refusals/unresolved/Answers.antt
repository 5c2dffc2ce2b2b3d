use Rattle.std.proofs.Common.{◌≡◌, ℕ, List, [], ◌∷◌, ◌++◌, codes, ap, sym, ◌∙◌}
use Rattle.si_base.specs.Words.{line}
use Rattle.si_circuit.specs.InsertionWords.{all_insertion_words}
use Rattle.si_words.specs.Loops.Writing.{spaced}
use Rattle.si_words.proofs.WritingLemmas.{joined_words}
use Rattle.si_refusals.proofs.refusals.unresolved.Goals as goal

whole : (words : List (List ℕ)) → (codes "unresolved" ++ spaced words) ++ 10 ∷ [] ≡ line (codes "unresolved" ∷ words)
whole words = ap (λ (t : List ℕ). t ++ 10 ∷ []) (sym (joined_words (codes "unresolved") words))

pub returns : goal.returns
returns c =
    c.in_ok-add.ensures.added
    ∙ rw (c.in_ok-text.ensures)
    (whole (c.args.p.now ∷ c.args.q.now ∷ all_insertion_words c.args.inserts.now))
