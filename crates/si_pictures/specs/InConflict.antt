-- (field) The states of conflicts.
use Rattle.std.specs.Prelude.{◌≡◌, ℕ, ◌<◌, ◌==◌, ◌||◌, ◌⊎◌, ◌↔◌, Bool, false, List, length, IsTrue}
use Rattle.std.specs.Prelude.{slice_index_or}
use Rattle.std.specs.List.{list_any}
use Rattle.si_base.specs.Codes.{CodedGraph}
use Rattle.si_base.specs.Proper.{IsConflict}

-- s and some other state are a conflict
abbrev pub IsInConflict : CodedGraph → ℕ → Type 0
IsInConflict c s = (t : ℕ) × (IsConflict c (s, t) ⊎ IsConflict c (t, s))

-- s is one of the two states of some of these conflicts
abbrev pub is_among : List (ℕ × ℕ) → ℕ → Bool
is_among pairs s = list_any (λ pair. (pair.0 == s) || (pair.1 == s)) pairs

-- for each state whether it is in a conflict
pub record AreMarks (c : CodedGraph) (marks : List Bool) : Type 0 where
  pub count : length marks ≡ c.graph.states
  pub each : (s : ℕ) → s < c.graph.states
      → IsTrue (slice_index_or marks s false) ↔ IsInConflict c s
