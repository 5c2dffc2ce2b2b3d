-- Signals that never wait for a new one, and those that do.
use Rattle.std.specs.Prelude.{◌≡◌, ℕ, Bool, true, false, List}
use Rattle.si_base.specs.declared.graph.Edge.{Edge}
use Rattle.si_base.specs.declared.ids.Event.{Event}
use Rattle.si_base.specs.Graph.{StateGraph, Step, arc}
use Rattle.si_insert.specs.declared.partition.Class.{Class}
use Rattle.si_insert.specs.Partition.{class_of}
use Rattle.si_insert.specs.Insertion.{waits}

-- the arc waits at neither value of the new signal
abbrev pub ArcNeverWaits : List Class → Edge → Type 0
ArcNeverWaits classes a =
    (value : Bool) → waits (class_of classes a.from) (class_of classes a.to) value ≡ false

-- no arc of z waits
abbrev pub NeverWaits : StateGraph → List Class → ℕ → Type 0
NeverWaits g classes z =
    (s : ℕ) (e : Event) (t : ℕ) → Step g s e t → e.sig ≡ z → ArcNeverWaits classes (arc s e t)

-- an arc between states of these classes waits at some value of the new signal
abbrev pub MayWait : Class → Class → Type 0
MayWait from to = (value : Bool) × (waits from to value ≡ true)

-- some arc of z waits
pub record Waits (g : StateGraph) (classes : List Class) (z : ℕ) : Type 0 where
  pub from : ℕ
  pub event : Event
  pub to : ℕ
  pub step : Step g from event to
  pub signal : event.sig ≡ z
  pub arc_waits : MayWait (class_of classes from) (class_of classes to)
