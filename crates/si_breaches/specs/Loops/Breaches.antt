-- Breaches as they are found.
use Rattle.std.specs.Prelude.{◌≡◌, ◌≢◌, ℕ, ◌<◌, List, Contains, length, slice_index}
use mathlib.Core.Bool.{beq}
use Rattle.si_base.specs.declared.ids.Event.{Event}
use Rattle.si_base.specs.declared.graph.Edge.{Edge}
use Rattle.si_base.specs.Bits.{bit}
use Rattle.si_base.specs.Graph.{StateGraph}
use Rattle.si_base.specs.Proper.{Split, Fork, Loss, Loses}
use Rattle.si_breaches.specs.Breaches.{AreFirstWays, IsFirstFork, Breaches, by_arc, is_odd}
use Rattle.si_told.specs.Loops.Lines.{ArcIsWithin}
use Rattle.si_breaches.specs.declared.breaches.FoundBreaches.{FoundBreaches}
use Rattle.si_breaches.specs.declared.clashes.Sought.{Sought}
use Rattle.si_breaches.specs.declared.clashes.Sought.TheVariants.{Torn, Own, Differing}

-- ---- splits
-- both arcs have one source and one event
pub record AreOneStep (x y : Edge) : Type 0 where
  pub from : x.from ≡ y.from
  pub event : x.event ≡ y.event

-- what two arcs tell
abbrev pub split_of : Edge → Edge → Split
split_of x y = record { s = x.from; e = x.event; t = x.to; u = y.to }

-- the arc is the one to the second state
abbrev pub IsSecond : Edge → Split → Type 0
IsSecond a b = a ≡ record { from = b.s; event = b.e; to = b.u }

-- ---- forks and losses
-- the first fork of events at s, and of the event `a`
abbrev pub ForksAt : StateGraph → ℕ → Fork → Type 0
ForksAt g s b = IsFirstFork g b × (b.s ≡ s)

abbrev pub ForksOf : StateGraph → ℕ → Event → Fork → Type 0
ForksOf g s a b = ForksAt g s b × (b.a ≡ a)

-- and of the events `a` and `c`
abbrev pub ForksBy : StateGraph → ℕ → Event → Event → Fork → Type 0
ForksBy g s a c b = ForksOf g s a b × (c ≡ b.c)

-- the event is the second of the fork, or the first
abbrev pub IsOfSecondEvent : Event → Fork → Type 0
IsOfSecondEvent c b = c ≡ b.c

abbrev pub IsOfFirstEvent : Event → Fork → Type 0
IsOfFirstEvent a b = a ≡ b.a

-- a loss at s, and one of the event `lost`
abbrev pub LosesAt : StateGraph → ℕ → Loss → Type 0
LosesAt g s b = Loses g b × (b.s ≡ s)

abbrev pub LosesOf : StateGraph → ℕ → Event → Loss → Type 0
LosesOf g s lost b = LosesAt g s b × (b.lost ≡ lost)

-- the event is the one that is lost, or the one that takes it away
abbrev pub IsOfLost : Event → Loss → Type 0
IsOfLost e b = e ≡ b.lost

abbrev pub IsOfCause : Event → Loss → Type 0
IsOfCause e b = e ≡ b.by

-- ---- clashes
-- the bits of the codes tell which signals the walks switch an odd number of times
pub record AreParities (g : StateGraph) (codes : List ℕ) : Type 0 where
  pub size : length codes ≡ g.states
  pub each : (walk : ℕ → List Event) → AreFirstWays g walk → (s a : ℕ) → s < g.states
      → bit (slice_index codes s) a ≡ is_odd a (walk s)

-- the arc is one of those that are looked for
abbrev pub Meets : (ℕ → List Event) → ℕ → Sought → Edge → Type 0
Meets walk a Torn x = is_odd a (by_arc walk x) ≢ is_odd a (walk x.to)
Meets walk a Own x = x.event.sig ≡ a
Meets walk a (Differing y) x = (x.event.sig ≡ a)
    × (beq (is_odd a (by_arc walk y)) (is_odd a (by_arc walk x)) ≢ beq y.event.up x.event.up)

pub record IsSought (g : StateGraph) (walk : ℕ → List Event) (a : ℕ) (sought : Sought) (x : Edge)
    : Type 0 where
  pub there : Contains g.edges x
  pub meets : Meets walk a sought x

-- the arc to which others are compared, if there is one, is within the graph
abbrev pub IsSoughtWithin : StateGraph → Sought → Type 0
IsSoughtWithin g Torn = Unit {0}
IsSoughtWithin g Own = Unit {0}
IsSoughtWithin g (Differing y) = ArcIsWithin g y

-- ---- all of them
abbrev pub breaches_of : FoundBreaches → Breaches
breaches_of f = record {
  splits = f.splits.items;
  clashes = f.clashes.items;
  forks = f.forks.items;
  losses = f.losses.items;
}
