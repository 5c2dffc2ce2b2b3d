-- (field) Gates that give the next values of a coded graph.
use Rattle.std.specs.Prelude.{◌≡◌, ℕ, ◌<◌, false, Some, slice_get}
use Rattle.si_base.specs.declared.graph.Signal.{Signal}
use Rattle.si_base.specs.Graph.{IsNonInput}
use Rattle.si_base.specs.Codes.{CodedGraph, code, next_value}
use Rattle.si_base.specs.Netlist.{Netlist, gate_value}
use Rattle.si_base.specs.System.{is_inserted}

-- at the code of each state each gate has the next value of its signal
pub record GivesNextValues (c : CodedGraph) (n : Netlist) : Type 0 where
  pub gates : (s z : ℕ) → s < c.graph.states → IsNonInput n.signals z
      → gate_value n z (code c s) ≡ next_value c s z

-- no signal is inserted
abbrev pub HasNoneInserted : Netlist → Type 0
HasNoneInserted n = (z : ℕ) (x : Signal) → slice_get n.signals z ≡ Some x
    → is_inserted x.kind ≡ false

-- the netlist has the graph's signals and start, none of them inserted, and its gates give the next
-- values
pub record IsRight (c : CodedGraph) (n : Netlist) : Type 0 where
  pub signals : n.signals ≡ c.graph.signals
  pub none_inserted : HasNoneInserted n
  pub start : n.start ≡ code c c.graph.start
  pub gives : GivesNextValues c n
