-- The support of a signal that never waits for a new one: what is known of it before the insertion,
-- and how many signals it has at least afterwards.
use Rattle.std.specs.Prelude.{ℕ, ◌≡◌, ◌≢◌, ◌+◌, ◌<◌, ◌≤◌, ◌↔◌, ◌⊎◌, Bool, true, false, List, All}
use Rattle.std.specs.Prelude.{Contains, length, bit_and, min}
use Rattle.si_base.specs.declared.graph.Signal.{Signal}
use Rattle.si_base.specs.Bits.{bit}
use Rattle.si_base.specs.Codes.{CodedGraph, IsCoded, code, next_value}
use Rattle.si_base.specs.Graph.{StateGraph, IsNonInput}
use Rattle.si_base.specs.Limits.{code_width}
use Rattle.si_base.specs.Proper.{HasNoConflict}
use Rattle.si_base.specs.Sets.{IsIn, IsSubset}
use Rattle.si_insert.specs.declared.partition.Class.{Class}
use Rattle.si_insert.specs.declared.partition.Class.TheVariants.{Low, High}
use Rattle.si_insert.specs.Insertion.{Copy, IsInsertedGraph, coded}
use Rattle.si_insert.specs.Partition.{IsLawful, class_of}
use Rattle.si_match.specs.Support.{determines, support_of}
use Rattle.si_match.specs.Weight.{size_from, size_of_support}
use Rattle.si_bounds.specs.declared.supports.Group.{Group}
use Rattle.si_bounds.specs.declared.supports.Groups.{Groups}
use Rattle.si_bounds.specs.declared.supports.KnownSupport.{KnownSupport}
use Rattle.si_bounds.specs.Loops.Least.{AreAllTriggers}
use Rattle.si_bounds.specs.Loops.Waiting.{NeverWaits}

-- ---- what signals don't tell
-- the set has just those states at which these signals have the values of the key, and the next
-- value of z is the given one
pub record AreStatesWith (c : CodedGraph) (z : ℕ) (value : Bool) (signals key : ℕ)
    (set : List Bool) : Type 0 where
  pub size : length set ≡ c.graph.states
  pub each : (s : ℕ) → IsIn set s
      ↔ ((s < c.graph.states) × (next_value c s z ≡ value) × (bit_and (code c s) signals ≡ key))

-- all states with the same values of these signals, by the next value of z: it has both
pub record IsGroup (c : CodedGraph) (z signals : ℕ) (group : Group) : Type 0 where
  pub key : ℕ
  pub ones : AreStatesWith c z true signals key group.ones
  pub zeros : AreStatesWith c z false signals key group.zeros
  pub some_one : (s : ℕ) × IsIn group.ones s
  pub some_zero : (s : ℕ) × IsIn group.zeros s

-- some such groups; one at least, unless the signals determine the next value
pub record AreGroups (c : CodedGraph) (z signals : ℕ) (groups : Groups) : Type 0 where
  pub each : All (IsGroup c z signals) groups.list.items
  pub some : determines c z signals ≡ false → 0 < length groups.list.items

-- ---- what is known of a support
-- of the signals that are there when signal i is tried, all but i itself: those of the support, and
-- all behind i
abbrev pub AreOthers : (support count i others : ℕ) → Type 0
AreOthers support count i others =
    (j : ℕ) → (bit others j ≡ true)
    ↔ ((j ≢ i) × ((bit support j ≡ true) ⊎ ((i < j) × (j < count))))

-- groups that show why signal i is kept: the other signals don't tell them apart
pub record ShowKept (c : CodedGraph) (z i : ℕ) (groups : Groups) : Type 0 where
  pub others : ℕ
  pub are_others : AreOthers (support_of c z) (length c.graph.signals) i others
  pub untold : AreGroups c z others groups

-- signal i is in the support and is no trigger
pub record IsFurther (c : CodedGraph) (z triggers i : ℕ) : Type 0 where
  pub in_support : bit (support_of c z) i ≡ true
  pub no_trigger : bit triggers i ≡ false

-- such groups for some further signal
abbrev pub ShowSome : CodedGraph → (z triggers : ℕ) → Groups → Type 0
ShowSome c z triggers groups = (i : ℕ) × IsFurther c z triggers i × ShowKept c z i groups

-- such groups for each further signal of the first ones, so many, and for no other signal
pub record ShowFurther (c : CodedGraph) (z triggers count : ℕ) (lists : List Groups) : Type 0 where
  pub each : (i : ℕ) → i < count → IsFurther c z triggers i
      → (groups : Groups) × Contains lists groups × ShowKept c z i groups
  pub no_more : All (ShowSome c z triggers) lists

-- the sets of the group are of that size
pub record IsGroupOfSize (states : ℕ) (group : Group) : Type 0 where
  pub ones : length group.ones ≡ states
  pub zeros : length group.zeros ≡ states

abbrev pub AreGroupsOfSize : ℕ → Groups → Type 0
AreGroupsOfSize states groups = All (IsGroupOfSize states) groups.list.items

-- all sets are of that size, and neither the support nor the triggers are more than a code has bits
pub record IsKnownOfSize (states : ℕ) (known : KnownSupport) : Type 0 where
  pub small : known.size ≤ code_width
  pub few : known.triggers ≤ code_width
  pub untold : AreGroupsOfSize states known.untold
  pub further : All (AreGroupsOfSize states) known.further.items

-- what is known of the support of the non-input z in a graph without conflicts
pub record KnowsSupport (c : CodedGraph) (z : ℕ) (known : KnownSupport) : Type 0 where
  pub coded : IsCoded c
  pub distinct : HasNoConflict c
  pub driven : IsNonInput c.graph.signals z
  pub size : known.size ≡ size_of_support c z
  pub triggers : ℕ
  pub are_triggers : AreAllTriggers c z triggers
  pub count : known.triggers ≡ size_from (length c.graph.signals) 0 triggers
  pub untold : AreGroups c z triggers known.untold
  pub further : ShowFurther c z triggers (length c.graph.signals) known.further.items
  pub of_size : IsKnownOfSize c.graph.states known

-- ---- what becomes of a support
-- the new signal tells the states of the group apart by their next values: those with 1 are all
-- High and those with 0 all Low, or the other way round
abbrev pub IsSeparated : (high low : List Bool) → Group → Type 0
IsSeparated high low group =
    (IsSubset group.ones high × IsSubset group.zeros low)
    ⊎ (IsSubset group.ones low × IsSubset group.zeros high)

-- some group stays mixed: the new signal doesn't tell its states apart
pub record HaveMixed (high low : List Bool) (groups : Groups) : Type 0 where
  pub group : Group
  pub listed : Contains groups.list.items group
  pub mixed : IsSeparated high low group → ⊥

-- of each further signal some group stays mixed, so that the signal is still needed
abbrev pub AreAllMixed : (high low : List Bool) → KnownSupport → Type 0
AreAllMixed high low known = All (HaveMixed high low) known.further.items

-- how many signals the support has at least afterwards: as many as before, where each further
-- signal is still needed. Else it may have the new signal, beside the triggers; and one more, where
-- these two leave a group mixed.
pub record IsLeastSize (high low : List Bool) (known : KnownSupport) (least : ℕ) : Type 0 where
  pub same : AreAllMixed high low known → least ≡ known.size
  pub two_more : (AreAllMixed high low known → ⊥) → HaveMixed high low known.untold
      → least ≡ min known.size (known.triggers + 2)
  pub one_more : (AreAllMixed high low known → ⊥) → (HaveMixed high low known.untold → ⊥)
      → least ≡ known.triggers + 1

-- each state of that class is in the set
abbrev pub HasAll : List Class → Class → List Bool → Type 0
HasAll classes class set =
    (s : ℕ) → s < length classes → class_of classes s ≡ class → IsIn set s

-- the support of z has that many signals at least in each inserted graph without conflicts in
-- which no arc of z waits, where the sets have all High and all Low states
abbrev pub BoundsSupport : CodedGraph → ℕ → (high low : List Bool) → ℕ → Type 0
BoundsSupport c z high low least =
    (classes : List Class) (new : Signal) (copies : List Copy) (h : StateGraph)
    → IsLawful c.graph classes → IsInsertedGraph c.graph classes new copies h
    → IsCoded (coded c copies h) → HasNoConflict (coded c copies h) → NeverWaits c.graph classes z
    → HasAll classes High high → HasAll classes Low low
    → least ≤ size_of_support (coded c copies h) z
