-- (law) The laws of candidates, one word each.
use Rattle.std.specs.Prelude.{◌≡◌, ℕ, ◌+◌, ◌<◌, ◌≤◌, ◌↔◌, ◌⊎◌, Bool, List, length, count_by}
use Rattle.si_base.specs.declared.ids.Event.{Event}
use Rattle.si_base.specs.Graph.{StateGraph, IsGraph}
use Rattle.si_base.specs.Limits.{max_signals, max_states}
use Rattle.si_base.specs.Codes.{CodedGraph, IsCoded, IsConnected}
use Rattle.si_base.specs.Proper.{IsProper, Loss}
use Rattle.si_base.specs.Sets.{IsIn, IsDisjoint}
use Rattle.si_insert.specs.declared.partition.Class.{Class}
use Rattle.si_insert.specs.declared.partition.Class.TheVariants.{Rising, Falling}
use Rattle.si_insert.specs.Partition.{class_of, IsLawful}
use Rattle.si_insert.specs.Accepted.{IsAccepted, copy_count, Delay}
use Rattle.si_insert.specs.Loops.Tests.{InputWaits, WaitsAfter}
use Rattle.si_candidates.specs.Interval.{IsInterval}
use Rattle.si_candidates.specs.Blocks.{AreBlocks}
use Rattle.si_candidates.specs.Parts.{AreClasses, HasBothLevels}
use Rattle.si_candidates.specs.Blocking.{IsClosedUnderInputs, KeepsExits, MaySwitch}

-- ---- blocks

-- a set and an event have one interval
abbrev pub IntervalsAreUnique : Type 0
IntervalsAreUnique = (g : StateGraph) (from : List Bool) (stop : Event) (xs ys : List Bool)
    → IsInterval g from stop xs → IsInterval g from stop ys → xs ≡ ys

-- they have one at all
abbrev pub IntervalsExist : Type 0
IntervalsExist = (g : StateGraph) (from : List Bool) (stop : Event)
    → IsGraph g → length from ≡ g.states → (set : List Bool) × IsInterval g from stop set

-- a coded graph has one list of blocks
abbrev pub BlocksAreUnique : Type 0
BlocksAreUnique = (c : CodedGraph) (xs ys : List (List Bool))
    → AreBlocks c xs → AreBlocks c ys → xs ≡ ys

-- it has one at all
abbrev pub BlocksExist : Type 0
BlocksExist = (c : CodedGraph) → IsCoded c → (blocks : List (List Bool)) × AreBlocks c blocks

-- ---- classes

-- the classes of two blocks are a lawful partition
abbrev pub ClassesAreLawful : Type 0
ClassesAreLawful = (g : StateGraph) (plus minus : List Bool) (classes : List Class) (r f : ℕ)
    → IsGraph g → AreClasses g plus minus classes
    → IsIn plus r → r < g.states → IsIn minus f → f < g.states
    → IsLawful g classes

-- each lawful partition is that of its Rising and its Falling states
abbrev pub LawfulAreClasses : Type 0
LawfulAreClasses = (g : StateGraph) (plus minus : List Bool) (classes : List Class)
    → IsGraph g → IsConnected g → IsLawful g classes
    → ((s : ℕ) → s < g.states → (class_of classes s ≡ Rising) ↔ IsIn plus s)
    → ((s : ℕ) → s < g.states → (class_of classes s ≡ Falling) ↔ IsIn minus s)
    → AreClasses g plus minus classes

-- two blocks have at most one list of classes
abbrev pub ClassesAreUnique : Type 0
ClassesAreUnique = (g : StateGraph) (plus minus : List Bool) (xs ys : List Class) (r f : ℕ)
    → IsGraph g → IsConnected g
    → IsIn plus r → r < g.states → IsIn minus f → f < g.states
    → AreClasses g plus minus xs → AreClasses g plus minus ys → xs ≡ ys

-- and none where some part is both
abbrev pub BothLevelsHaveNone : Type 0
BothLevelsHaveNone = (g : StateGraph) (plus minus : List Bool) (classes : List Class) (s : ℕ)
    → AreClasses g plus minus classes → HasBothLevels g plus minus s → ⊥

-- two disjoint blocks that aren't empty have classes, or some part is both
abbrev pub ClassesOrBothLevels : Type 0
ClassesOrBothLevels = (g : StateGraph) (plus minus : List Bool) (r f : ℕ)
    → IsGraph g → IsConnected g → length plus ≡ g.states → length minus ≡ g.states
    → IsDisjoint plus minus → IsIn plus r → IsIn minus f
    → ((classes : List Class) × AreClasses g plus minus classes)
    ⊎ ((s : ℕ) × HasBothLevels g plus minus s)

-- ---- acceptance

-- inputs wait for no block alone
abbrev pub InputsWaitByBlock : Type 0
InputsWaitByBlock = (g : StateGraph) (classes : List Class)
    → ((d : Delay) → InputWaits g classes d → ⊥)
    ↔ (IsClosedUnderInputs g (λ s. class_of classes s ≡ Rising)
    × IsClosedUnderInputs g (λ s. class_of classes s ≡ Falling))

-- and so with losses
abbrev pub LossesByBlock : Type 0
LossesByBlock = (g : StateGraph) (classes : List Class) → IsLawful g classes
    → ((b : Loss) → WaitsAfter g classes b → ⊥)
    ↔ (KeepsExits g (λ s. class_of classes s ≡ Rising)
    × KeepsExits g (λ s. class_of classes s ≡ Falling))

-- acceptance looks at each block alone, at the number of copies and at the number of signals
abbrev pub AcceptedByBlocks : Type 0
AcceptedByBlocks = (c : CodedGraph) (plus minus : List Bool) (classes : List Class)
    → IsCoded c → IsProper c.graph → IsLawful c.graph classes
    → AreClasses c.graph plus minus classes
    → IsAccepted c.graph classes
    ↔ (MaySwitch c.graph (IsIn plus) × MaySwitch c.graph (IsIn minus)
    × (copy_count classes ≤ max_states) × (length c.graph.signals < max_signals))

-- the number of copies is that of the states and of the states of both blocks
abbrev pub CopiesByBlocks : Type 0
CopiesByBlocks = (g : StateGraph) (plus minus : List Bool) (classes : List Class)
    → length plus ≡ g.states → length minus ≡ g.states → AreClasses g plus minus classes
    → copy_count classes ≡ g.states + count_by (λ b. b) plus + count_by (λ b. b) minus
