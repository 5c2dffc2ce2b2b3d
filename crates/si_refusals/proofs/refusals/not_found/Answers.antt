use Rattle.std.proofs.Common.{◌≡◌, ℕ, List, [], ◌∷◌, ◌++◌, append_assoc, codes, decimal, ap, sym, ◌∙◌}
use Rattle.std.proofs.lemmas.Grind.{flat_map-append}
use Rattle.si_base.specs.Words.{line}
use Rattle.si_circuit.specs.InsertionWords.{all_insertion_words}
use Rattle.si_words.specs.Loops.Writing.{spaced}
use Rattle.si_words.proofs.WritingLemmas.{joined_words}
use Rattle.si_refusals.proofs.refusals.not_found.Goals as goal

regrouped : (head rest one two three : List ℕ)
    → ((((head ++ rest) ++ 32 ∷ one) ++ 32 ∷ two) ++ 32 ∷ three) ++ 10 ∷ []
    ≡ (head ++ (rest ++ 32 ∷ (one ++ 32 ∷ (two ++ 32 ∷ (three ++ []))))) ++ 10 ∷ []
regrouped head rest one two three = simp append_assoc

whole : (words : List (List ℕ)) (one two three : List ℕ)
    → ((((codes "unresolved" ++ spaced words) ++ 32 ∷ one) ++ 32 ∷ two) ++ 32 ∷ three) ++ 10 ∷ []
    ≡ line (codes "unresolved" ∷ words ++ one ∷ two ∷ three ∷ [])
whole words one two three =
    regrouped (codes "unresolved") (spaced words) one two three
    ∙ ap (λ (t : List ℕ). (codes "unresolved" ++ t) ++ 10 ∷ [])
    (sym (flat_map-append (λ w. 32 ∷ w) words (one ∷ two ∷ three ∷ [])))
    ∙ ap (λ (t : List ℕ). t ++ 10 ∷ [])
    (sym (joined_words (codes "unresolved") (words ++ one ∷ two ∷ three ∷ [])))

pub returns : goal.returns
returns c =
    c.in_ok-add.ensures.added
    ∙ rw (
      c.in_ok-add_word-3.ensures,
      c.in_ok-add_word-2.ensures,
      c.in_ok-add_word.ensures,
      c.in_ok-text.ensures,
      c.as_bytes.ensures.value,
      c.in-Ok.ensures.ok,
    )
    (whole (c.args.p.now ∷ c.args.q.now ∷ all_insertion_words c.args.inserts.now) (codes "after")
    (decimal c.args.tried) (codes "candidates"))
