-- Borrowed words as lists of bytes.
use Rattle.std.specs.Prelude.{ℕ, List, map}
use Rattle.std.specs.Borrow.{Bor}

abbrev pub words_now : List (Bor (List ℕ)) → List (List ℕ)
words_now words = map (λ w. w.now) words

abbrev pub both_now : Bor (List (Bor (List ℕ))) × Bor (List (Bor (List ℕ))) → List (List ℕ)
    × List (List ℕ)
both_now p = (words_now p.0.now, words_now p.1.now)

abbrev pub parts_now : List (Bor (List (Bor (List ℕ)))) → List (List (List ℕ))
parts_now parts = map (λ p. words_now p.now) parts
