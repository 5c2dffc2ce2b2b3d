-- The states of a current graph, each as the state of the circuit that stands just there.
use Rattle.std.specs.Prelude.{ℕ, List, map}
use Rattle.std.specs.List.{range_with_len}
use Rattle.si_base.specs.Codes.{code}
use Rattle.si_insert.specs.Lineage.{Current, origin}
use Rattle.si_finder.specs.declared.places.Key.{Key}
use Rattle.si_reached.specs.declared.state.Reached.{Reached}

abbrev pub key_state : Key → Reached
key_state k = record { state = k.state; values = k.values }

-- the code of the state beside its origin
abbrev pub stand : Current → ℕ → Reached
stand v s = record { state = origin v s; values = code v.coded s }

-- the first states of the current graph, so many
abbrev pub stands_below : Current → ℕ → List Reached
stands_below v count = map (stand v) (range_with_len 0 count)

abbrev pub stands : Current → List Reached
stands v = stands_below v v.coded.graph.states
