-- The parts of words between marks.
use Rattle.std.proofs.Common.{◌≡◌, ℕ, List, [], ◌∷◌, map, refl, ap, ◌∙◌, Bor, Vec, Global, Result, Ok, Err, IfOk, codes}
use Rattle.std.proofs.Common.{bytes_eq}
use Rattle.std.specs.List.{slice_split}
use Rattle.si_words.proofs.SumWordLemmas.{slice_split-map}
use Rattle.si_words.specs.Loops.Reads.{words_now, parts_now}
use Rattle.si_words.specs.Sums.{parts_at}

pub parts_ok : {E : Type 0} (words : List (Bor (List ℕ))) (r : Result (Vec (Bor (List (Bor (List ℕ)))) Global) E)
    → IfOk r (λ v. map (λ p. p.now) v.items ≡ slice_split (λ w. bytes_eq (codes "+") w.now) words)
    → IfOk r (λ v. parts_now v.items ≡ parts_at (codes "+") (words_now words))
parts_ok words (Err e) kept = tt
parts_ok words (Ok v) kept = both v.items ∙ ap (map words_now) kept
    ∙ slice_split-map (λ (w : Bor (List ℕ)). w.now) (bytes_eq (codes "+")) words
  where
    both : (ps : List (Bor (List (Bor (List ℕ))))) → parts_now ps ≡ map words_now (map (λ p. p.now) ps)
    both [] = refl
    both (p ∷ ps) = ap (λ l. words_now p.now ∷ l) (both ps)
