-- (command) The netlist of a graph from the cells of a library.
use Rattle.std.specs.Prelude.{◌≡◌, ℕ, List, [], Ok, Err}
use Rattle.si_base.specs.GivenGraph.{Sg}
use Rattle.si_base.specs.NetlistText.{name_of, netlist_text}
use Rattle.si_base.specs.Proper.{HasNoConflict}
use Rattle.si_cell.specs.Library.{Library}
use Rattle.si_cell.specs.declared.pins.Pins.TheVariants.{Plain}
use Rattle.si_circuit.specs.Cells.{AllFit, mapped_netlist}
use Rattle.si_circuit.specs.Spelling.{insertions_of}
use Rattle.si_circuit.specs.Wires.{IsOfCellsAndWires}
use Rattle.si_insert.specs.declared.lineage.TraceStep.{TraceStep}
use Rattle.si_insert.specs.Lineage.{ExtendsBy, History}
use Rattle.si_map.specs.declared.map.MapStuck.{MapStuck}
use Rattle.si_map.specs.declared.map.MapStuck.TheVariants.{NoMemory, Signal}
use Rattle.si_map.specs.Trace.{EndsMapped, EndsUnmapped}
use Rattle.si_refusals.specs.Ending.{Ending, Answered}
use Rattle.si_refusals.specs.Refusal.{TextRefusal, Unmapped, TextRefused}
use Rattle.si_refusals.specs.Stages.{Stage}
use Rattle.si_stages.specs.Written.{IsWritten}

-- m is l with the insertions of mapping: each is the best divisor of the graph before it, and at
-- their end each signal that the circuit drives fits a cell
pub record EndsInCells (library : Library) (l m : History) : Type 0 where
  pub trace : List TraceStep
  pub goes : ExtendsBy l trace m
  pub maps : EndsMapped library l.current trace m.current

-- the same as far as divisors serve, where z is the first signal that fits no cell
pub record EndsUnfit (library : Library) (l m : History) (z : ℕ) : Type 0 where
  pub trace : List TraceStep
  pub goes : ExtendsBy l trace m
  pub ends : EndsUnmapped library l.current trace m.current z

-- the output is the text of a netlist that is written for the given graph, over the lineage that
-- mapping makes of l: its gates are, for the current graph, the first fitting instances of the
-- library, which read signals as they are where the library's pins are plain; and its insertions
-- are those of the trace; where the given graph has no conflict and its signals fit cells, there is
-- none
pub record IsMapping (library : Library) (given : Sg) (l : History) (output : List ℕ)
    : Type 0 where
  pub lineage : History
  pub maps : EndsInCells library l lineage
  pub written : IsWritten given lineage output
  pub gates_are : written.netlist ≡ mapped_netlist library given.model given.states lineage
  pub wired : library.pins ≡ Plain → IsOfCellsAndWires library written.netlist
  pub none_inserted : HasNoConflict l.given → AllFit l.given library
      → written.netlist.inserts ≡ []

-- the refusal that shows the name of a signal of a lineage's current graph, and the insertions
abbrev pub unfit_refusal : (states : List (List ℕ)) → History → ℕ → TextRefusal
unfit_refusal states l z =
    Unmapped (name_of l.current.coded.graph.signals z) (insertions_of states l)

-- the ending tells the cause for which mapping goes no further
abbrev pub TellsStuck : (states : List (List ℕ)) → History → MapStuck → Ending → Type 0
TellsStuck states l NoMemory ending = ⊥
TellsStuck states l (Signal z) ending = ending ≡ Answered (TextRefused (unfit_refusal states l z))

-- the text of the netlist of cells for the lineage that mapping makes of l
pub record IsCellsText (library : Library) (model : List ℕ) (states : List (List ℕ)) (l : History)
    (text : List ℕ) : Type 0 where
  pub lineage : History
  pub maps : EndsInCells library l lineage
  pub text_is : text ≡ netlist_text (mapped_netlist library model states lineage)

-- no text, but the first signal that fits no cell where no divisor serves, and the insertions
abbrev pub shows_unfit : Library → (states : List (List ℕ)) → History → Stage TextRefusal (List ℕ)
shows_unfit library states l (Ok output) = ⊥
shows_unfit library states l (Err refusal) =
    (m : History) × (z : ℕ) × EndsUnfit library l m z × (refusal ≡ unfit_refusal states m z)

-- the netlist of cells, where mapping comes to one: else the first signal that fits none
abbrev pub cells_text : Library → Sg → History → Stage TextRefusal (List ℕ)
cells_text library given l (Ok output) = IsMapping library given l output
cells_text library given l (Err refusal) = shows_unfit library given.states l (Err refusal)
