-- (field) The classes of a candidate: a block where the new signal rises, one where it falls, and
-- the parts between them.
use Rattle.std.specs.Prelude.{◌≡◌, ℕ, ◌<◌, ◌↔◌, ◌⊎◌, Bool, List, [], ◌∷◌, length}
use Rattle.si_base.specs.declared.ids.Event.{Event}
use Rattle.si_base.specs.Order.{IsFirst}
use Rattle.si_base.specs.Graph.{StateGraph, Step}
use Rattle.si_base.specs.Sets.{IsIn}
use Rattle.si_regions.specs.Connected.{AreConnected}
use Rattle.si_insert.specs.declared.partition.Class.{Class}
use Rattle.si_insert.specs.declared.partition.Class.TheVariants.{Low, Rising, High, Falling}
use Rattle.si_insert.specs.Partition.{class_of}
use Rattle.si_candidates.specs.declared.classes.ClassFault.{ClassFault}
use Rattle.si_candidates.specs.declared.classes.ClassFault.TheVariants.{NoMemory, NoClasses}

-- s is a state of the graph in neither block
pub record IsOther (g : StateGraph) (plus minus : List Bool) (s : ℕ) : Type 0 where
  pub within : s < g.states
  pub not_plus : IsIn plus s → ⊥
  pub not_minus : IsIn minus s → ⊥

-- an arc leads from the set to t
abbrev pub ComesFrom : StateGraph → List Bool → ℕ → Type 0
ComesFrom g set t = (s : ℕ) × (e : Event) × IsIn set s × Step g s e t

-- an arc leads from t into the set
abbrev pub GoesInto : StateGraph → List Bool → ℕ → Type 0
GoesInto g set t = (s : ℕ) × (e : Event) × IsIn set s × Step g t e s

-- in the part of s some state is entered from the set `from`, or leads into the set `into`
pub record PartMeets (g : StateGraph) (plus minus from into : List Bool) (s : ℕ) : Type 0 where
  pub at : ℕ
  pub part : AreConnected g (IsOther g plus minus) s at
  pub by : ComesFrom g from at ⊎ GoesInto g into at

-- the part of s is entered from a Rising state, or leads to a Falling one
abbrev pub IsHigh : StateGraph → List Bool → List Bool → ℕ → Type 0
IsHigh g plus minus s = PartMeets g plus minus plus minus s

-- the part of s is entered from a Falling state, or leads to a Rising one
abbrev pub IsLow : StateGraph → List Bool → List Bool → ℕ → Type 0
IsLow g plus minus s = PartMeets g plus minus minus plus s

-- the classes for a block that rises and one that falls
pub record AreClasses (g : StateGraph) (plus minus : List Bool) (classes : List Class)
    : Type 0 where
  pub count : length classes ≡ g.states
  pub rising : (s : ℕ) → s < g.states → (class_of classes s ≡ Rising) ↔ IsIn plus s
  pub falling : (s : ℕ) → s < g.states → (class_of classes s ≡ Falling) ↔ IsIn minus s
  pub high : (s : ℕ) → s < g.states → (class_of classes s ≡ High) ↔ IsHigh g plus minus s
  pub low : (s : ℕ) → s < g.states → (class_of classes s ≡ Low) ↔ IsLow g plus minus s

-- there are no classes for the two blocks
abbrev pub HaveNoClasses : StateGraph → List Bool → List Bool → Type 0
HaveNoClasses g plus minus = (classes : List Class) → AreClasses g plus minus classes → ⊥

-- the part of s is both High and Low
pub record HasBothLevels (g : StateGraph) (plus minus : List Bool) (s : ℕ) : Type 0 where
  pub high : IsHigh g plus minus s
  pub low : IsLow g plus minus s

-- the least state of all parts that are both
abbrev pub IsFirstWithBothLevels : StateGraph → List Bool → List Bool → ℕ → Type 0
IsFirstWithBothLevels g plus minus s = IsFirst (λ t. t ∷ []) (HasBothLevels g plus minus) s

-- what a refusal shows
abbrev pub ShowsNoClasses : StateGraph → List Bool → List Bool → ClassFault → Type 0
ShowsNoClasses g plus minus NoMemory = Unit {0}
ShowsNoClasses g plus minus (NoClasses s) = IsFirstWithBothLevels g plus minus s
