-- What is known of all signals before an insertion.
use Rattle.std.specs.Prelude.{ℕ, ◌≡◌, ◌≤◌, ◌<◌, ◌+◌, Bool, true, false, List, Option, Some, None, length, slice_index_or}
use Rattle.si_base.specs.Bits.{bit}
use Rattle.si_base.specs.Codes.{CodedGraph}
use Rattle.si_base.specs.Graph.{IsNonInput}
use Rattle.si_base.specs.Limits.{code_width}
use Rattle.si_cell.specs.Library.{Library}
use Rattle.si_insert.specs.declared.partition.Class.{Class}
use Rattle.si_match.specs.Fit.{first_fit}
use Rattle.si_bounds.specs.declared.bounds.Bounds.{Bounds}
use Rattle.si_bounds.specs.declared.unfit.Unfit.{Unfit}
use Rattle.si_bounds.specs.Loops.Least.{HaveFewPins}
use Rattle.si_bounds.specs.Loops.Needs.{AreStable}
use Rattle.si_bounds.specs.Loops.Unfit.{KnowsUnfit, TellsLeast}

-- something is known of the signal z
abbrev pub IsKnown : List (Option Unfit) → ℕ → Unfit → Type 0
IsKnown list z unfit = slice_index_or list z None ≡ Some unfit

-- that is known of the first signals of c, so many, where the cells are those of the library
pub record AreKnown (c : CodedGraph) (library : Library) (count : ℕ) (list : List (Option Unfit))
    : Type 0 where
  pub count_is : length list ≡ count
  pub known : (z : ℕ) (unfit : Unfit) → IsKnown list z unfit → KnowsUnfit c library z unfit
  pub all : (z : ℕ) → z < count → IsNonInput c.graph.signals z → first_fit c library z ≡ None
      → (unfit : Unfit) × IsKnown list z unfit

-- that is known of all of them, and no cell has more pins
pub record AreBounds (c : CodedGraph) (library : Library) (bounds : Bounds) : Type 0 where
  pub known : AreKnown c library (length c.graph.signals) bounds.unfit.items
  pub few : HaveFewPins library bounds.most

-- that is known of them where the cells are those of some library
abbrev pub AreSomeBounds : CodedGraph → Bounds → Type 0
AreSomeBounds c bounds = (library : Library) × AreBounds c library bounds

-- what is told of a signal of which that is known, if it waits and if it doesn't
pub record Tells (high low : List Bool) (known : Option Unfit) (waits : Bool) (least : ℕ)
    : Type 0 where
  pub nothing : known ≡ None → least ≡ 0
  pub waiting : (unfit : Unfit) → known ≡ Some unfit → waits ≡ true → least ≡ 1
  pub never : (unfit : Unfit) → known ≡ Some unfit → waits ≡ false → (classes : List Class)
      → AreStable classes high low → TellsLeast classes high low unfit least
  pub small : least ≤ 2 + code_width

-- the list tells that of the first signals, so many, where those of the set wait
pub record Tell (high low : List Bool) (waiting : ℕ) (known : List (Option Unfit)) (count : ℕ)
    (least : List ℕ) : Type 0 where
  pub count_is : length least ≡ count
  pub each : (z : ℕ) → z < count
      → Tells high low (slice_index_or known z None) (bit waiting z) (slice_index_or least z 0)
