-- Codes that tell the values of signals.
use Rattle.std.specs.Prelude.{◌≡◌, ◌≢◌, ℕ, ◌<◌, Bool, not, List, length, All, slice_index}
use Rattle.si_base.specs.declared.ids.Event.{Event}
use Rattle.si_base.specs.declared.graph.Edge.{Edge}
use Rattle.si_base.specs.Bits.{bit}
use Rattle.si_base.specs.Graph.{StateGraph}
use Rattle.si_base.specs.Codes.{AreValues}
use Rattle.si_base.specs.Limits.{code_width}

-- the code of the start: wherever a signal has values, its value there
abbrev pub IsStartCode : StateGraph → ℕ → Type 0
IsStartCode g start = (a : ℕ) (v : ℕ → Bool) → AreValues g a v → bit start a ≡ v g.start

-- wherever a signal has values, the codes tell them
abbrev pub TellsValues : StateGraph → List ℕ → Type 0
TellsValues g codes = (a : ℕ) (v : ℕ → Bool) → AreValues g a v → (s : ℕ) → s < g.states
    → bit (slice_index codes s) a ≡ v s

-- the values of signal a in the codes from and to suit an arc by the event: its own event switches
-- it, and others keep it
pub record Suits (from to : ℕ) (e : Event) (a : ℕ) : Type 0 where
  pub before : e.sig ≡ a → bit from a ≡ not e.up
  pub after : e.sig ≡ a → bit to a ≡ e.up
  pub kept : e.sig ≢ a → bit to a ≡ bit from a

-- the codes have places for the arc's states, and bits for its signal
abbrev pub HasPlaces : List ℕ → Edge → Type 0
HasPlaces codes x = (x.from < length codes) × (x.event.sig < code_width) × (x.to < length codes)

-- the codes suit each of the arcs at signal a
abbrev pub SuitAll : List Edge → List ℕ → ℕ → Type 0
SuitAll arcs codes a =
    All (λ x. Suits (slice_index codes x.from) (slice_index codes x.to) x.event a) arcs

-- a is the first signal at which the codes don't suit each of the arcs
pub record IsFirstUnsuited (arcs : List Edge) (codes : List ℕ) (a : ℕ) : Type 0 where
  pub unsuited : SuitAll arcs codes a → ⊥
  pub before : (b : ℕ) → b < a → SuitAll arcs codes b
