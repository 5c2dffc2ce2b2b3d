-- (text) How many lines there are of a kind, and those with which each report begins.
use Rattle.std.specs.Prelude.{ℕ, List, [], ◌∷◌, map, take, codes, decimal}

-- the most lines of a kind
abbrev pub max_told : ℕ
max_told = 1000

-- how many lines there would be
abbrev pub told_line : ℕ → List (List ℕ)
told_line count = codes "told" ∷ decimal count ∷ []

-- the name of a state of the text that no walk reaches
abbrev pub dropped_line : List ℕ → List (List ℕ)
dropped_line name = codes "dropped" ∷ name ∷ []

-- the lines of the first of a kind
abbrev pub kind_lines : {A : Type 0} → (A → List (List ℕ)) → List A → List (List (List ℕ))
kind_lines line_of xs = map line_of (take max_told xs)
