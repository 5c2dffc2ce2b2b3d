-- What is known of parts, their places and their insertions while they are joined.
use Rattle.std.specs.Prelude.{◌≡◌, ℕ, ◌<◌, ◌≤◌, List, []}
use Rattle.std.specs.Prelude.{◌∷◌, length, slice_get, slice_index, Some, All, IsTrue}
use Rattle.si_base.specs.declared.graph.Signal.{Signal}
use Rattle.si_base.specs.GivenGraph.{Sg}
use Rattle.si_base.specs.Graph.{StateGraph}
use Rattle.si_base.specs.Netlist.{Insertion, Netlist}
use Rattle.si_base.specs.WellFormed.{IsNetlist}
use Rattle.si_base.specs.Words.{is_signal_name}
use Rattle.si_insert.specs.Lineage.{History}
use Rattle.si_insert.specs.declared.accept.Rejected.{Rejected}
use Rattle.si_insert.specs.declared.accept.Rejected.TheVariants as why

-- each tuple shows a state of part i, whose states have these names
abbrev pub AreShown : (states : List (List ℕ)) → (i : ℕ) → (tuples : List (List ℕ)) → Type 0
AreShown states i [] = Unit {0}
AreShown states i (xs ∷ tuples) =
    (i < length xs) × (slice_index xs i < length states) × AreShown states i tuples

-- and so of each part
abbrev pub AreAllShown : List Sg → (tuples : List (List ℕ)) → Type 0
AreAllShown given tuples = (i : ℕ) (g : Sg) → i < length given → slice_get given i ≡ Some g
    → AreShown g.states i tuples

-- the lineage m has the given graph of l, and its insertions and perhaps more
pub record Goes (l m : History) : Type 0 where
  pub given : m.given ≡ l.given
  pub more : length l.trace ≤ length m.trace

abbrev pub AreNamed : List Signal → Type 0
AreNamed signals = All (λ x. IsTrue (is_signal_name x.name)) signals

abbrev pub AreLinesNamed : List Insertion → Type 0
AreLinesNamed lines = All (λ i. IsTrue (is_signal_name i.name)) lines

-- a reason shows a state of the graph, and events of its signals
abbrev pub ShowsWithin : StateGraph → Rejected → Type 0
ShowsWithin g (why.DelaysInput s e) = (s < g.states) × (e.sig < length g.signals)
ShowsWithin g (why.BreaksPersistency s lost by) =
    (s < g.states) × (lost.sig < length g.signals) × (by.sig < length g.signals)
ShowsWithin g (why.TooLarge count) = Unit {0}
ShowsWithin g why.NoCodeBit = Unit {0}

-- there is a place for each signal of each part
abbrev pub ArePlaced : List Netlist → (places : List (List ℕ)) → Type 0
ArePlaced [] [] = Unit {0}
ArePlaced (n ∷ ns) (to ∷ tos) = (length to ≡ length n.signals) × ArePlaced ns tos
ArePlaced [] (to ∷ tos) = ⊥
ArePlaced (n ∷ ns) [] = ⊥

-- each is a netlist
abbrev pub AreNetlists : List Netlist → Type 0
AreNetlists [] = Unit {0}
AreNetlists (n ∷ ns) = IsNetlist n × AreNetlists ns
