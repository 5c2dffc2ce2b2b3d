-- (field) What a designer is told of a proper graph beside its breaches and conflicts.
use Rattle.std.specs.Prelude.{◌≡◌, ◌≢◌, ℕ, ◌<◌, length, slice_get, Some, IsTrue}
use Rattle.si_base.specs.declared.graph.Edge.{Edge}
use Rattle.si_base.specs.declared.graph.Signal.{Signal}
use Rattle.si_base.specs.declared.graph.SigKind.TheVariants.{Input}
use Rattle.si_base.specs.Graph.{StateGraph, Step, enables, IsNonInput}
use Rattle.si_base.specs.Codes.{CodedGraph, code, IsIdle}
use Rattle.si_base.specs.Proper.{Loss, IsConflict}
use Rattle.si_carried.specs.Always.{IsDead, Leads}

-- a signal that no arc switches
pub record IsUnused (g : StateGraph) (a : ℕ) : Type 0 where
  pub within : a < length g.signals
  pub idle : IsIdle g a

-- a state without arcs
pub record IsDeadState (g : StateGraph) (s : ℕ) : Type 0 where
  pub within : s < g.states
  pub dead : IsDead g s

-- an arc after which the start can't be reached any more, and before which it can
pub record IsOneWay (g : StateGraph) (a : Edge) : Type 0 where
  pub step : Step g a.from a.event a.to
  pub back : Leads g a.from g.start
  pub lost : Leads g a.to g.start → ⊥

-- at s the input event is enabled, and not after the event `by`
pub record Withdraws (g : StateGraph) (b : Loss) : Type 0 where
  pub signal : Signal
  pub named : slice_get g.signals b.lost.sig ≡ Some signal
  pub input : signal.kind ≡ Input
  pub enabled : IsTrue (enables g b.s b.lost)
  pub by_another : b.lost ≢ b.by
  pub after : (t : ℕ) × Step g b.s b.by t × (IsTrue (enables g t b.lost) → ⊥)

-- the environment chooses: an input withdraws it
pub record IsChoice (g : StateGraph) (b : Loss) : Type 0 where
  pub withdraws : Withdraws g b
  pub by_input : IsNonInput g.signals b.by.sig → ⊥

-- the circuit decides what the environment may do
pub record IsDisabling (g : StateGraph) (b : Loss) : Type 0 where
  pub withdraws : Withdraws g b
  pub by_driven : IsNonInput g.signals b.by.sig

-- a state and the next one of its code, in no conflict
pub record IsSameCode (c : CodedGraph) (pair : ℕ × ℕ) : Type 0 where
  pub order : pair.0 < pair.1
  pub within : pair.1 < c.graph.states
  pub same : code c pair.0 ≡ code c pair.1
  pub next : (u : ℕ) → pair.0 < u → u < pair.1 → code c pair.0 ≢ code c u
  pub no_conflict : IsConflict c pair → ⊥
