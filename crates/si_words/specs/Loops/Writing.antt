-- Parts of lines, as the tool writes them.
use Rattle.std.specs.Prelude.{ℕ, List, ◌∷◌, flat_map}
use Rattle.si_base.specs.Bytes.{space}

-- words, each with a blank before it
abbrev pub spaced : List (List ℕ) → List ℕ
spaced words = flat_map (λ w. space ∷ w) words
