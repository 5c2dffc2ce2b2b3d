-- (law) The laws of the report of a graph's breaches, one word each.
use Rattle.std.specs.Prelude.{◌≡◌, ℕ, ◌↔◌, List, [], ◌∷◌}
use Rattle.si_base.specs.declared.ids.Event.{Event}
use Rattle.si_base.specs.Codes.{IsConnected, IsDeterministic, HasValues}
use Rattle.si_base.specs.Graph.{StateGraph, IsGraph}
use Rattle.si_base.specs.Proper.{Split, Fork, Forks, fork_place}
use Rattle.si_checks.specs.Laws.{ProperOrBreach, AllHold, HasSplit, HasNoValues, HasFork, HasLoss}
use Rattle.si_breaches.specs.Breaches.{AreFirstWays, IsSplit, IsClash, IsFirstFork, Breaches}
use Rattle.si_breaches.specs.Breaches.{AreBreaches}
use Rattle.si_breaches.specs.BreachText.{IsBreachText}
use Rattle.si_breaches.specs.declared.clashes.Clash.{Clash}
use Rattle.si_breaches.specs.declared.clashes.Clashing.{Clashing}

-- a graph with names for its states has one text of its breaches at most
abbrev pub BreachTextsAreUnique : Type 0
BreachTextsAreUnique = (g : StateGraph) (states dropped : List (List ℕ)) (x y : List ℕ)
    → IsBreachText g states dropped x → IsBreachText g states dropped y → x ≡ y

-- and has one
abbrev pub BreachTextsExist : Type 0
BreachTextsExist = (g : StateGraph) (states dropped : List (List ℕ)) → IsGraph g → IsConnected g
    → (text : List ℕ) × IsBreachText g states dropped text

-- a signal has a clash exactly where it has no values
abbrev pub ClashesTellValues : Type 0
ClashesTellValues = (g : StateGraph) (walk : ℕ → List Event) → IsGraph g → AreFirstWays g walk
    → (a : ℕ) → ((k : Clash) × IsClash g walk a k) ↔ (HasValues g a → ⊥)

-- a graph has a split exactly where it isn't deterministic
abbrev pub SplitsTellDeterminism : Type 0
SplitsTellDeterminism = (g : StateGraph) → ((b : Split) → IsSplit g b → ⊥) ↔ IsDeterministic g

-- where two orders of two events end apart at a state, there is one fork of these that is told
abbrev pub EachForkIsTold : Type 0
EachForkIsTold = (g : StateGraph) → IsGraph g → (x : Fork) → Forks g x
    → (b : Fork) × IsFirstFork g b × (fork_place b ≡ fork_place x)

-- of a deterministic graph each fork is told
abbrev pub ForksAreFirst : Type 0
ForksAreFirst = (g : StateGraph) (b : Fork) → IsDeterministic g → Forks g b → IsFirstFork g b

-- ---- what is told first
-- the list begins so
abbrev pub BeginsWith : {A : Type 0} → A → List A → Type 0
BeginsWith {A} x xs = (rest : List A) × (xs ≡ x ∷ rest)

-- a signal and a clash of it
abbrev pub clashing : ℕ → Clash → Clashing
clashing a k = record { sig = a; clash = k }

-- the kinds before that of the first breach are empty, and that begins with it; of a proper graph
-- there is none
abbrev pub LeadsWith : {g : StateGraph} → ProperOrBreach g → Breaches → Type 0
LeadsWith (AllHold good) b =
    (b.splits ≡ []) × (b.clashes ≡ []) × (b.forks ≡ []) × (b.losses ≡ [])
LeadsWith (HasSplit x first) b = BeginsWith x b.splits
LeadsWith (HasNoValues deterministic a first) b = (b.splits ≡ [])
    × ((k : Clash) × BeginsWith (clashing a k) b.clashes)
LeadsWith (HasFork deterministic consistent x first) b =
    (b.splits ≡ []) × (b.clashes ≡ []) × BeginsWith x b.forks
LeadsWith (HasLoss deterministic consistent commutative x first) b =
    (b.splits ≡ []) × (b.clashes ≡ []) × (b.forks ≡ []) × BeginsWith x b.losses

-- what `check` refuses a graph with is the first that is told of it
abbrev pub FirstBreachLeads : Type 0
FirstBreachLeads = (g : StateGraph) (walk : ℕ → List Event) (b : Breaches) → IsGraph g
    → AreFirstWays g walk → AreBreaches g walk b → (found : ProperOrBreach g) → LeadsWith found b
