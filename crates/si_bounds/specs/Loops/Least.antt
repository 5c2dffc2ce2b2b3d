-- What signals that never wait for a new one add to the weight at least.
use Rattle.std.specs.Prelude.{ℕ, ◌≡◌, ◌+◌, ◌<◌, ◌≤◌, ◌↔◌, true, List, [], ◌∷◌, All, length}
use Rattle.std.specs.Prelude.{slice_index_or, if◌then◌else◌}
use Rattle.si_base.specs.declared.graph.Signal.{Signal}
use Rattle.si_base.specs.Bits.{bit}
use Rattle.si_base.specs.Graph.{StateGraph, IsNonInput}
use Rattle.si_base.specs.Codes.{CodedGraph, IsCoded}
use Rattle.si_base.specs.Limits.{code_width}
use Rattle.si_base.specs.Proper.{HasNoConflict}
use Rattle.si_cell.specs.Library.{Library}
use Rattle.si_insert.specs.declared.partition.Class.{Class}
use Rattle.si_insert.specs.Insertion.{Copy, IsInsertedGraph, coded}
use Rattle.si_insert.specs.Partition.{IsLawful}
use Rattle.si_match.specs.Triggers.{IsTrigger}
use Rattle.si_match.specs.Weight.{added_weight, weight_of}
use Rattle.si_bounds.specs.Loops.Waiting.{NeverWaits}

-- no cell has more pins
abbrev pub HaveFewPins : Library → ℕ → Type 0
HaveFewPins library most = All (λ cell. length cell.pins ≤ most) library.cells

-- z adds that much at least to the weight of each graph without conflicts that is inserted by the
-- classes, if none of its arcs waits there
abbrev pub AddsAtLeast : CodedGraph → Library → List Class → ℕ → ℕ → Type 0
AddsAtLeast c library classes z least =
    (new : Signal) (copies : List Copy) (h : StateGraph)
    → IsLawful c.graph classes → IsInsertedGraph c.graph classes new copies h
    → IsCoded (coded c copies h) → HasNoConflict (coded c copies h) → NeverWaits c.graph classes z
    → least ≤ added_weight (coded c copies h) library z

-- what is known of z: nothing, or what it adds at least; of an input nothing
abbrev pub IsLeast : CodedGraph → Library → List Class → ℕ → ℕ → Type 0
IsLeast c library classes z least =
    0 < least → IsNonInput c.graph.signals z × AddsAtLeast c library classes z least

-- that is known of each signal
pub record AreLeast (c : CodedGraph) (library : Library) (classes : List Class) (least : List ℕ)
    : Type 0 where
  pub count : length least ≡ length c.graph.signals
  pub small : All (λ w. w ≤ 2 + code_width) least
  pub each : (z : ℕ) → IsLeast c library classes z (slice_index_or least z 0)

-- the set has all triggers of z, and no other signal
abbrev pub AreAllTriggers : CodedGraph → ℕ → ℕ → Type 0
AreAllTriggers c z set = (i : ℕ) → (bit set i ≡ true) ↔ IsTrigger c z i

-- what the list tells of the signals outside of the set together, from signal i on
abbrev pub sum_outside : (set i : ℕ) → List ℕ → ℕ
sum_outside set i [] = 0
sum_outside set i (w ∷ least) = (if bit set i then 0 else w) + sum_outside set (i + 1) least

-- the signal adds that much to the weight, where this is more than nothing
abbrev pub AddsTo : CodedGraph → Library → ℕ → ℕ → Type 0
AddsTo c library z least =
    0 < least → IsNonInput c.graph.signals z × (least ≤ added_weight c library z)

-- each inserted graph of the classes without conflicts has that weight at least
abbrev pub WeighsAtLeast : CodedGraph → Library → List Class → ℕ → Type 0
WeighsAtLeast c library classes bar =
    (new : Signal) (copies : List Copy) (h : StateGraph) → IsInsertedGraph c.graph classes new copies h
    → IsCoded (coded c copies h) → HasNoConflict (coded c copies h)
    → bar ≤ weight_of (coded c copies h) library
