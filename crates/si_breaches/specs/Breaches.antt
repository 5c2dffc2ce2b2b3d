-- (field) All breaches of a graph that isn't proper, kind by kind.
use Rattle.std.specs.Prelude.{◌≡◌, ◌≢◌, ℕ, ◌<◌, ◌≤◌, Bool, List, [], ◌∷◌, ◌++◌, Contains, length}
use mathlib.Core.Bool.{beq}
use Rattle.si_base.specs.declared.ids.Event.{Event}
use Rattle.si_base.specs.declared.graph.Edge.{Edge}
use Rattle.si_base.specs.Bits.{bit}
use Rattle.si_base.specs.Codes.{parity}
use Rattle.si_base.specs.Graph.{StateGraph, Step}
use Rattle.si_base.specs.Order.{Before, IsFirst}
use Rattle.si_base.specs.Proper.{Split, Splits, split_place, Fork, Forks, fork_place, Loss, Loses}
use Rattle.si_base.specs.Proper.{loss_place}
use Rattle.si_told.specs.All.{AreAll, arc_place}
use Rattle.si_breaches.specs.declared.clashes.Clash.{Clash}
use Rattle.si_breaches.specs.declared.clashes.Clash.TheVariants.{Torn, Apart}
use Rattle.si_breaches.specs.declared.clashes.Clashing.{Clashing}
use Rattle.si_walks.specs.Paths.{IsWayTo}

-- ---- of determinism
-- s leads by e to t and to u, and to no state between these
pub record IsSplit (g : StateGraph) (b : Split) : Type 0 where
  pub splits : Splits g b
  pub next : (v : ℕ) → b.t < v → v < b.u → Step g b.s b.e v → ⊥

-- ---- of consistency
-- for each state a shortest walk from the start to it, the events of the first path; and none past
-- the last state
pub record AreFirstWays (g : StateGraph) (walk : ℕ → List Event) : Type 0 where
  pub within : (s : ℕ) → s < g.states → IsWayTo g s (walk s)
  pub past : (s : ℕ) → g.states ≤ s → walk s ≡ []

-- the walk to the source of an arc, and then the arc
abbrev pub by_arc : (ℕ → List Event) → Edge → List Event
by_arc walk x = walk x.from ++ x.event ∷ []

-- the events switch signal a an odd number of times
abbrev pub is_odd : ℕ → List Event → Bool
is_odd a events = bit (parity events) a

-- of two walks to the arc's target, by the arc and by itself, the one switches a an odd number of
-- times and the other an even one
pub record IsTorn (g : StateGraph) (walk : ℕ → List Event) (a : ℕ) (x : Edge) : Type 0 where
  pub there : Contains g.edges x
  pub torn : is_odd a (by_arc walk x) ≢ is_odd a (walk x.to)

-- an arc of a
pub record Switches (g : StateGraph) (a : ℕ) (x : Edge) : Type 0 where
  pub there : Contains g.edges x
  pub own : x.event.sig ≡ a

-- the arcs x and y of a tell two values that a had at the start: the walks by them switch it alike
-- and end with different values, or don't and end with one value
pub record Differs (g : StateGraph) (walk : ℕ → List Event) (a : ℕ) (x y : Edge) : Type 0 where
  pub switches : Switches g a y
  pub apart : beq (is_odd a (by_arc walk x)) (is_odd a (by_arc walk y)) ≢ beq x.event.up y.event.up

-- two walks that give a two values: the first arc to whose target walks with both parities lead;
-- where there is none, the first arc of a, and the first that differs from it
abbrev pub IsClash : StateGraph → (ℕ → List Event) → ℕ → Clash → Type 0
IsClash g walk a (Torn x) = IsFirst arc_place (IsTorn g walk a) x
IsClash g walk a (Apart x y) = ((z : Edge) → IsTorn g walk a z → ⊥)
    × IsFirst arc_place (Switches g a) x × IsFirst arc_place (Differs g walk a x) y

-- a signal, and a clash of it
pub record IsClashing (g : StateGraph) (walk : ℕ → List Event) (c : Clashing) : Type 0 where
  pub within : c.sig < length g.signals
  pub clash : IsClash g walk c.sig c.clash

abbrev pub clashing_place : Clashing → List ℕ
clashing_place c = c.sig ∷ []

-- ---- of commutativity
-- where the two orders end
abbrev pub fork_ends : Fork → List ℕ
fork_ends b = b.w ∷ b.w2 ∷ []

-- a fork; of those of one state and two events the one with the first ends
pub record IsFirstFork (g : StateGraph) (b : Fork) : Type 0 where
  pub forks : Forks g b
  pub first : (x : Fork) → Forks g x → fork_place x ≡ fork_place b
      → Before (fork_ends x) (fork_ends b) → ⊥

-- ---- all of them
pub record Breaches : Type 0 where
  pub splits : List Split
  pub clashes : List Clashing
  pub forks : List Fork
  pub losses : List Loss

-- all that g has of each kind, whatever else it has: of two orders and of what vanishes a graph in
-- which one event leads to several states tells too
pub record AreBreaches (g : StateGraph) (walk : ℕ → List Event) (b : Breaches) : Type 0 where
  pub splits : AreAll split_place (IsSplit g) b.splits
  pub clashes : AreAll clashing_place (IsClashing g walk) b.clashes
  pub forks : AreAll fork_place (IsFirstFork g) b.forks
  pub losses : AreAll loss_place (Loses g) b.losses
