-- Signals at places, and truth tables over the places.
use Rattle.std.specs.Prelude.{◌≡◌, ℕ, ◌<◌, Bool, true, false, List, ◌∷◌, map, if◌then◌else◌}
use Rattle.si_base.specs.Bits.{bit}
use Rattle.si_base.specs.Codes.{CodedGraph, code, next_value}
use Rattle.si_cell.specs.Library.{code_of}
use Rattle.si_match.specs.declared.places.Seen.{Seen}

-- the values of the signals at a code, each at its place
abbrev pub placed_code : List ℕ → ℕ → ℕ
placed_code signals code = code_of (map (bit code) signals)

-- at the state the table, where z stands first and then the chosen signals, has the next value of z
abbrev pub AgreesAt : CodedGraph → ℕ → List ℕ → ℕ → ℕ → Type 0
AgreesAt c z chosen table s = bit table (placed_code (z ∷ chosen) (code c s)) ≡ next_value c s z

abbrev pub Agrees : CodedGraph → ℕ → List ℕ → ℕ → Type 0
Agrees c z chosen table = (s : ℕ) → s < c.graph.states → AgreesAt c z chosen table s

-- at some state it hasn't
abbrev pub Differs : CodedGraph → ℕ → List ℕ → ℕ → Type 0
Differs c z chosen table = (s : ℕ) × (s < c.graph.states) × (AgreesAt c z chosen table s → ⊥)

-- at some state the places have the values m, and z has the next value 1, or 0
pub record AreSeen (c : CodedGraph) (z : ℕ) (chosen : List ℕ) (seen : Seen) : Type 0 where
  pub on : (m : ℕ) → bit seen.on m ≡ true → (s : ℕ) × (s < c.graph.states)
      × (placed_code (z ∷ chosen) (code c s) ≡ m) × (next_value c s z ≡ true)
  pub off : (m : ℕ) → bit seen.off m ≡ true → (s : ℕ) × (s < c.graph.states)
      × (placed_code (z ∷ chosen) (code c s) ≡ m) × (next_value c s z ≡ false)

-- the values that were seen with that next value
abbrev pub places_with : Seen → Bool → ℕ
places_with seen next = if next then seen.on else seen.off
