-- (text) How insertions are spelled: each by its name, and the words of the states at which the
-- signal rises and falls.
use Rattle.std.specs.Prelude.{◌≡◌, ℕ, zero, suc, ◌+◌, ◌/◌, ◌^◌, ◌<◌, Bool, true, false, List, []}
use Rattle.std.specs.Prelude.{◌∷◌, ◌++◌, length, map, filter, if◌then◌else◌}
use Rattle.std.specs.List.{range_with_len, slice_index_or}
use Rattle.si_base.specs.Bits.{bit, flip}
use Rattle.si_base.specs.Bytes.{at_sign, digit_zero, digit_one}
use Rattle.si_base.specs.Codes.{CodedGraph, code}
use Rattle.si_base.specs.Netlist.{Insertion}
use Rattle.si_insert.specs.declared.lineage.TraceStep.{TraceStep}
use Rattle.si_insert.specs.declared.partition.Class.{Class}
use Rattle.si_insert.specs.Partition.{class_of}
use Rattle.si_insert.specs.Insertion.{Copy}
use Rattle.si_insert.specs.GraphOfCopies.{copies_of, switches}
use Rattle.si_insert.specs.Lineage.{Current, History, origin}
use Rattle.si_circuit.specs.declared.spelling.Descent.{Descent}

abbrev pub digit : Bool → ℕ
digit value = if value then digit_one else digit_zero

-- the first k bits
abbrev pub digits : ℕ → ℕ → List ℕ
digits k bits = map (λ i. digit (bit bits i)) (range_with_len 0 k)

-- the values of the first k inserted signals, in order of insertion, after `@`; nothing before any
-- insertion
abbrev pub mark : ℕ → ℕ → List ℕ
mark zero bits = []
mark (suc k) bits = at_sign ∷ digits (suc k) bits

-- the word of a state after k insertions: the name of the given state from which it comes, and its
-- mark
abbrev pub state_word : List (List ℕ) → ℕ → Descent → List ℕ
state_word states k d = slice_index_or states d.origin [] ++ mark k d.bits

-- the descent of state s
abbrev pub descent : List Descent → ℕ → Descent
descent ds s = slice_index_or ds s (record { origin = 0; bits = 0 })

-- the words of the states at which a signal, inserted by these classes after k others, switches in
-- that direction
abbrev pub switching_words : List (List ℕ) → ℕ → List Descent → List Class → Bool → List (List ℕ)
switching_words states k ds classes up =
    map (λ s. state_word states k (descent ds s))
    (filter (λ s. switches up (class_of classes s)) (range_with_len 0 (length classes)))

abbrev pub insertion_of : List (List ℕ) → ℕ → List Descent → TraceStep → Insertion
insertion_of states k ds p = record {
  name = p.name;
  up = switching_words states k ds p.partition true;
  down = switching_words states k ds p.partition false;
}

-- a copy comes from where its state comes, and has the new signal's value as bit k
abbrev pub copy_descent : ℕ → List Descent → Copy → Descent
copy_descent k ds x =
    record {
      origin = (descent ds x.state).origin;
      bits = if x.value then flip (descent ds x.state).bits k else (descent ds x.state).bits;
    }

-- the descents of the states after one more insertion
abbrev pub descents_after : ℕ → List Class → List Descent → List Descent
descents_after k classes ds = map (copy_descent k ds) (copies_of classes)

-- and after a row of insertions
abbrev pub descents_along : ℕ → List TraceStep → List Descent → List Descent
descents_along k [] ds = ds
descents_along k (p ∷ trace) ds = descents_along (k + 1) trace (descents_after k p.partition ds)

-- the given states, each its own origin
abbrev pub given_descents : ℕ → List Descent
given_descents states = map (λ s. record { origin = s; bits = 0 }) (range_with_len 0 states)

abbrev pub insertions_from : List (List ℕ) → ℕ → List Descent → List TraceStep → List Insertion
insertions_from states k ds [] = []
insertions_from states k ds (p ∷ trace) =
    insertion_of states k ds p ∷ insertions_from states (k + 1) (descents_after k p.partition ds)
    trace

-- the insertions of a lineage, in their order
unfoldable pub insertions_of : List (List ℕ) → History → List Insertion
insertions_of states l = insertions_from states 0 (given_descents l.given.graph.states) l.trace

-- the descents of the current states: their origins, and the values of the inserted signals
pub record AreDescents (given : CodedGraph) (v : Current) (ds : List Descent) : Type 0 where
  pub count : length ds ≡ v.coded.graph.states
  pub origins : (s : ℕ) → s < v.coded.graph.states → (descent ds s).origin ≡ origin v s
  pub values : (s k : ℕ) → s < v.coded.graph.states
      → bit (descent ds s).bits k ≡ bit (code v.coded s) (length given.graph.signals + k)

-- the descent of state s of the current graph: its origin, and its code without the given signals
abbrev pub current_descent : History → ℕ → Descent
current_descent l s =
    record {
      origin = origin l.current s;
      bits = code l.current.coded s / 2 ^ length l.given.graph.signals;
    }

-- the word of state s of the current graph
unfoldable pub current_word : List (List ℕ) → History → ℕ → List ℕ
current_word states l s = state_word states (length l.trace) (current_descent l s)

-- no two states of the current graph have one word
abbrev pub WordsTellStates : List (List ℕ) → History → Type 0
WordsTellStates states l = (s t : ℕ) → s < l.current.coded.graph.states
    → t < l.current.coded.graph.states → current_word states l s ≡ current_word states l t → s ≡ t
