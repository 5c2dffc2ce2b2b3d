-- What is known of a signal that no cell fits, before a further signal is inserted.
use Rattle.std.specs.Prelude.{ℕ, ◌≡◌, ◌+◌, ◌⊎◌, Bool, List, Vec, All, IfSome, None, Some}
use Rattle.std.specs.Global.{Global}
use Rattle.si_base.specs.Codes.{CodedGraph}
use Rattle.si_base.specs.Graph.{IsNonInput}
use Rattle.si_cell.specs.Library.{Library}
use Rattle.si_insert.specs.declared.partition.Class.{Class}
use Rattle.si_match.specs.Fit.{first_fit}
use Rattle.si_bounds.specs.declared.needs.Need.{Need}
use Rattle.si_bounds.specs.declared.unfit.Unfit.{Unfit}
use Rattle.si_bounds.specs.Loops.Needs.{AreNeeds, HasSize, SomeIsMet}
use Rattle.si_bounds.specs.Loops.Supports.{BoundsSupport, IsKnownOfSize, IsLeastSize, KnowsSupport}

-- that is known of the signal z of c where the cells are those of the library
pub record KnowsUnfit (c : CodedGraph) (library : Library) (z : ℕ) (unfit : Unfit) : Type 0 where
  pub driven : IsNonInput c.graph.signals z
  pub none_fits : first_fit c library z ≡ None
  pub needs : IfSome unfit.needs (λ needs. AreNeeds c library z needs.items)
  pub support : KnowsSupport c z unfit.support

-- all its sets are of that size
pub record IsUnfitOfSize (states : ℕ) (unfit : Unfit) : Type 0 where
  pub needs : IfSome unfit.needs (λ needs. All (HasSize states) needs.items)
  pub support : IsKnownOfSize states unfit.support

-- the needs are known, and the classes meet none of them
abbrev pub NoneIsMet : List Class → Unfit → Type 0
NoneIsMet classes unfit =
    (needs : Vec Need Global) × (unfit.needs ≡ Some needs) × (SomeIsMet needs.items classes → ⊥)

-- where none is met, the signal adds one more than its support has at least
pub record TellsUnmet (classes : List Class) (high low : List Bool) (unfit : Unfit) (least : ℕ)
    : Type 0 where
  pub none : NoneIsMet classes unfit
  pub size : ℕ
  pub is_size : IsLeastSize high low unfit.support size
  pub bounds : (c : CodedGraph) (z : ℕ) → KnowsSupport c z unfit.support
      → BoundsSupport c z high low size
  pub told : least ≡ 1 + size

-- or else nothing is told
pub record TellsNothing (classes : List Class) (unfit : Unfit) (least : ℕ) : Type 0 where
  pub some : NoneIsMet classes unfit → ⊥
  pub told : least ≡ 0

abbrev pub TellsLeast : List Class → (high low : List Bool) → Unfit → ℕ → Type 0
TellsLeast classes high low unfit least =
    TellsUnmet classes high low unfit least ⊎ TellsNothing classes unfit least
