-- The keywords of Verilog by their length, as a table has them.
use Rattle.std.specs.Prelude.{ℕ, zero, suc, ◌==◌, ◌||◌, Bool, List, [], ◌∷◌, filter, length}
use Rattle.std.specs.List.{slice_split}
use Rattle.si_base.specs.Bytes.{line_feed, space}
use Rattle.si_verilog.specs.Keywords.{keywords}

-- how many bytes the shortest keywords have
abbrev pub shortest : ℕ
shortest = 2

-- how many lengths there are, from that of the shortest to that of the longest
abbrev pub lengths : ℕ
lengths = 18

abbrev pub has_length : ℕ → List ℕ → Bool
has_length n word = length word == n

-- the keywords of so many lengths, from this one on
abbrev pub keywords_from : ℕ → ℕ → List (List (List ℕ))
keywords_from n zero = []
keywords_from n (suc more) = filter (has_length n) keywords ∷ keywords_from (suc n) more

-- the words of a text, which stand between blanks and on lines
abbrev pub words_in : List ℕ → List (List ℕ)
words_in text = slice_split (λ b. (b == space) || (b == line_feed)) text

-- the words of each text that have its length, which is this one for the first
abbrev pub of_lengths : ℕ → List (List ℕ) → List (List (List ℕ))
of_lengths n [] = []
of_lengths n (text ∷ texts) = filter (has_length n) (words_in text) ∷ of_lengths (suc n) texts
