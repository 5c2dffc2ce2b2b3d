-- (field) Gates that are cells of a library: for each signal the first instance that fits it.
use Rattle.std.specs.Prelude.{◌≡◌, ℕ, ◌<◌, List, [], Option, Some, None}
use Rattle.std.specs.Option.{IsSome}
use Rattle.si_base.specs.Codes.{CodedGraph}
use Rattle.si_base.specs.Graph.{IsNonInput}
use Rattle.si_base.specs.Netlist.{Gate, SumGate, Cell, Netlist}
use Rattle.si_cell.specs.Expanded.{expanded}
use Rattle.si_cell.specs.Library.{Library, Instance, cell_at}
use Rattle.si_match.specs.Fit.{first_fit}
use Rattle.si_insert.specs.Lineage.{History}
use Rattle.si_circuit.specs.Gates.{netlist_of}
use Rattle.si_circuit.specs.Spelling.{insertions_of}
use Rattle.si_circuit.specs.declared.cells.CellsFault.{CellsFault}
use Rattle.si_circuit.specs.declared.cells.CellsFault.TheVariants.{NoMemory, Unfit}

-- ---- the gates

-- an instance as the gate of signal z: the name of its cell, its literals, and its sum over them
-- and z
abbrev pub instance_gate : Library → ℕ → Instance → Gate
instance_gate library z i = Cell (cell_at library i.cell).name i.literals (expanded library i z)

-- where no instance fits, there is no such gate, and the empty sum stands for it
abbrev pub gate_if_any : Library → ℕ → Option Instance → Gate
gate_if_any library z None = SumGate []
gate_if_any library z (Some i) = instance_gate library z i

-- the first fitting instance as the gate of signal z
abbrev pub cell_gate : CodedGraph → Library → ℕ → Gate
cell_gate c library z = gate_if_any library z (first_fit c library z)

-- the netlist of these gates for the lineage's current graph, with the insertions of its trace
abbrev pub mapped_netlist : Library → (model : List ℕ) → (states : List (List ℕ)) → History
    → Netlist
mapped_netlist library model states l =
    netlist_of (cell_gate l.current.coded library) model (insertions_of states l) l.current.coded

-- ---- where there are such gates

-- some instance fits each signal that the circuit drives
abbrev pub AllFit : CodedGraph → Library → Type 0
AllFit c library = (z : ℕ) → IsNonInput c.graph.signals z → IsSome (first_fit c library z)

-- the first signal that the circuit drives and that no instance fits
pub record IsFirstUnfit (c : CodedGraph) (library : Library) (z : ℕ) : Type 0 where
  pub driven : IsNonInput c.graph.signals z
  pub unfit : first_fit c library z ≡ None
  pub others : (y : ℕ) → y < z → IsNonInput c.graph.signals y → IsSome (first_fit c library y)

-- what a fault shows of the graph
abbrev pub ShowsUnfit : CodedGraph → Library → CellsFault → Type 0
ShowsUnfit c library NoMemory = Unit {0}
ShowsUnfit c library (Unfit sig) = IsFirstUnfit c library sig

-- what the fault of one signal's gate shows
abbrev pub ShowsUnfitAt : CodedGraph → Library → ℕ → CellsFault → Type 0
ShowsUnfitAt c library z NoMemory = Unit {0}
ShowsUnfitAt c library z (Unfit sig) = (sig ≡ z) × (first_fit c library z ≡ None)
