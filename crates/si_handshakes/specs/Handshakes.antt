-- (field) Independent handshakes of four phases (return to zero): the environment drives the
-- requests, the circuit the acknowledgements.
use Rattle.std.specs.Prelude.{◌≡◌, ◌≢◌, ℕ, ◌+◌, ◌/◌, ◌%◌, ◌^◌, ◌<◌, ◌≤◌, ◌==◌, ◌||◌, ◌++◌, ◌↔◌}
use Rattle.std.specs.Prelude.{Bool, List, map, length, codes, decimal, if◌then◌else◌}
use Rattle.std.specs.List.{range_with_len}
use Rattle.si_base.specs.declared.ids.Event.{Event}
use Rattle.si_base.specs.declared.graph.SigKind.TheVariants.{Input, Output}
use Rattle.si_base.specs.Bits.{bit}
use Rattle.si_base.specs.Graph.{StateGraph, Step, rise, fall, IsGraph}
use Rattle.si_base.specs.GivenGraph.{Sg, signals_of}
use Rattle.si_base.specs.Codes.{CodedGraph, code}

-- the most handshakes of which the graph is made
abbrev pub max_handshakes : ℕ
max_handshakes = 8

-- the phase of handshake i at the state m: digit i of m to the base 4, the lowest being digit 0
abbrev pub phase : ℕ → ℕ → ℕ
phase m i = m / 4 ^ i % 4

-- the request is 1 in the phases 1 and 2
abbrev pub request : ℕ → Bool
request p = (p == 1) || (p == 2)

-- the acknowledgement is 1 in the phases 2 and 3
abbrev pub acknowledgement : ℕ → Bool
acknowledgement p = (p == 2) || (p == 3)

-- the event that ends the phase p of handshake i among n: its request, which is signal i, rises;
-- its acknowledgement, which is signal n + i, rises; the request falls; the acknowledgement falls
abbrev pub ending : ℕ → ℕ → ℕ → Event
ending n i p = if p == 0 then rise i
    else (if p == 1 then rise (n + i) else (if p == 2 then fall i else fall (n + i)))

-- from m to t one handshake goes on to its next phase, by e, and every other stays in its phase
pub record GoesOn (n m : ℕ) (e : Event) (t : ℕ) : Type 0 where
  pub handshake : ℕ
  pub within : handshake < n
  pub event : e ≡ ending n handshake (phase m handshake)
  pub next : phase t handshake ≡ (phase m handshake + 1) % 4
  pub others : (k : ℕ) → k ≢ handshake → phase t k ≡ phase m k

-- the stem with each number below the count, in decimal
abbrev pub numbered : List ℕ → ℕ → List (List ℕ)
numbered stem count = map (λ k. stem ++ decimal k) (range_with_len 0 count)

-- the graph of n handshakes, with the names of its states
pub record IsHandshakes (n : ℕ) (sg : Sg) : Type 0 where
  pub model : sg.model ≡ codes "exercise"
  pub graph : IsGraph sg.graph
  pub signals : sg.graph.signals
      ≡ signals_of Input (numbered (codes "r") n) ++ signals_of Output (numbered (codes "a") n)
  pub count : sg.graph.states ≡ 4 ^ n
  pub start : sg.graph.start ≡ 0
  pub steps : (m : ℕ) (e : Event) (t : ℕ)
      → Step sg.graph m e t ↔ ((m < 4 ^ n) × (t < 4 ^ n) × GoesOn n m e t)
  pub states : sg.states ≡ numbered (codes "s") (4 ^ n)

-- each code has the values that the signals have in the phases
pub record HasValuesOfPhases (n : ℕ) (c : CodedGraph) : Type 0 where
  pub requests : (m i : ℕ) → m < 4 ^ n → i < n → bit (code c m) i ≡ request (phase m i)
  pub acknowledgements : (m i : ℕ) → m < 4 ^ n → i < n
      → bit (code c m) (n + i) ≡ acknowledgement (phase m i)

-- the sizes of the graph of the most handshakes
pub record IsWithinLimits (g : StateGraph) : Type 0 where
  pub signals : length g.signals ≤ 16
  pub states : g.states ≤ 65536
  pub arcs : length g.edges ≤ 524288
