-- Graphs that are proper by their codes.
use Rattle.std.specs.Prelude.{◌≡◌, ◌≢◌, ℕ, ◌<◌, ◌↔◌, false, Bool, List, length, IsTrue}
use Rattle.si_base.specs.declared.graph.Edge.{Edge}
use Rattle.si_base.specs.declared.graph.Signal.{Signal}
use Rattle.si_base.specs.Bits.{bit}
use Rattle.si_base.specs.Codes.{CodedGraph, code}
use Rattle.si_base.specs.Graph.{StateGraph, enables, IsNonInput}
use Rattle.si_base.specs.Proper.{IsPersistent}

-- no two states have one code: the book's unique state coding
abbrev pub HasUniqueCodes : CodedGraph → Type 0
HasUniqueCodes c = (s t : ℕ) → s < c.graph.states → t < c.graph.states → code c s ≡ code c t → s ≡ t

-- s enables a rise or a fall of z
abbrev pub MaySwitch : StateGraph → ℕ → ℕ → Type 0
MaySwitch g s z = (up : Bool) × IsTrue (enables g s (record { sig = z; up = up }))

-- after the arc each other non-input signal may switch that might before
abbrev pub LeavesOthers : StateGraph → Edge → Type 0
LeavesOthers g a = (z : ℕ) → z ≢ a.event.sig → IsNonInput g.signals z → MaySwitch g a.from z
    → MaySwitch g a.to z

-- of the bits of the signals those of the inputs are 1
abbrev pub AreInputs : List Signal → ℕ → Type 0
AreInputs signals inputs = (z : ℕ) → z < length signals
    → (bit inputs z ≡ false) ↔ IsNonInput signals z

-- both can be told without a look at pairs of arcs
pub record IsProperByCodes (c : CodedGraph) : Type 0 where
  pub persistent : IsPersistent c.graph
  pub unique : HasUniqueCodes c
