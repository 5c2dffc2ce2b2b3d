-- (text) Names of signals in a text of equations.
use Rattle.std.specs.Prelude.{ℕ, ◌+◌, ◌==◌, Bool, false, List, [], ◌∷◌, bytes_eq, if◌then◌else◌}
use Rattle.std.specs.Prelude.{Option, Some, None, option_map, unwrap_or}
use Rattle.si_base.specs.Bits.{bit}
use Rattle.si_base.specs.Bytes.{opening_bracket, closing_bracket}

-- what stands before a closing bracket that is the last byte
abbrev pub before_bracket : List ℕ → Option (List ℕ)
before_bracket [] = None
before_bracket (b ∷ []) = if b == closing_bracket then Some [] else None
before_bracket (b ∷ c ∷ cs) = option_map (λ bs. b ∷ bs) (before_bracket (c ∷ cs))

-- a name in brackets is the same as without them
abbrev pub bare : List ℕ → List ℕ
bare [] = []
bare (b ∷ bs) =
    if b == opening_bracket then unwrap_or (before_bracket bs) (b ∷ bs) else b ∷ bs

-- the value of the first of these names that is this one, where the first has the i-th bit
abbrev pub named_from : ℕ → List (List ℕ) → ℕ → List ℕ → Bool
named_from i [] values name = false
named_from i (n ∷ names) values name =
    if bytes_eq n name then bit values i else named_from (i + 1) names values name

-- the value of a name, where the names have the bits of a code, in their order
abbrev pub named_value : List (List ℕ) → ℕ → List ℕ → Bool
named_value names values name = named_from 0 names values name
