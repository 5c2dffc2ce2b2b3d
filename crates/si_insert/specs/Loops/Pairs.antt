-- The local tests, arc by arc.
use Rattle.std.specs.Prelude.{◌≡◌, ◌≢◌, ℕ, ◌&&◌, not, Bool, true, false, List, Contains}
use Rattle.si_base.specs.declared.graph.Edge.{Edge}
use Rattle.si_base.specs.Graph.{StateGraph, Step, IsNonInput}
use Rattle.si_insert.specs.declared.partition.Class.{Class}
use Rattle.si_insert.specs.Partition.{class_of}
use Rattle.si_insert.specs.Insertion.{waits, has_copy}
use Rattle.si_insert.specs.Accepted.{IsInput}

-- arcs lead from s to t and to u, and from u to w: at the value the first two go, the third waits
abbrev pub breaks : Class → Class → Class → Class → Bool → Bool
breaks s t u w v = has_copy s v && (not (waits s t v) && (not (waits s u v) && waits u w v))

-- the event is an input's, and the arc waits at some value
pub record IsHeld (g : StateGraph) (classes : List Class) (a : Edge) : Type 0 where
  pub input : IsInput g.signals a.event.sig
  pub value : Bool
  pub late : waits (class_of classes a.from) (class_of classes a.to) value ≡ true

-- an arc by an input that waits at some value
pub record ArcWaits (g : StateGraph) (classes : List Class) (a : Edge) : Type 0 where
  pub there : Contains g.edges a
  pub held : IsHeld g classes a

-- at some value the arcs a and b go, and after b the event of a waits
pub record IsBroken (g : StateGraph) (classes : List Class) (a b : Edge) : Type 0 where
  pub same : b.from ≡ a.from
  pub apart : a.event ≢ b.event
  pub value : Bool
  pub has : has_copy (class_of classes a.from) value ≡ true
  pub first_goes : waits (class_of classes a.from) (class_of classes a.to) value ≡ false
  pub other_goes : waits (class_of classes a.from) (class_of classes b.to) value ≡ false
  pub w : ℕ
  pub next : Step g b.to a.event w
  pub late : waits (class_of classes b.to) (class_of classes w) value ≡ true

pub record PairBreaks (g : StateGraph) (classes : List Class) (a b : Edge) : Type 0 where
  pub there : Contains g.edges b
  pub broken : IsBroken g classes a b

-- the arc a is of a non-input, and some b breaks it
pub record ArcBreaks (g : StateGraph) (classes : List Class) (a : Edge) : Type 0 where
  pub there : Contains g.edges a
  pub non_input : IsNonInput g.signals a.event.sig
  pub by : Edge
  pub breaks : PairBreaks g classes a by
