-- (command) Handshakes, exercised: the sizes of their graph and of its circuit.
use Rattle.std.specs.Prelude.{◌≡◌, ℕ, ◌+◌, List, [], ◌∷◌, length, codes}
use Rattle.std.specs.List.{sum_by}
use Rattle.si_base.specs.Behaviour.{Implements}
use Rattle.si_base.specs.Codes.{CodedGraph}
use Rattle.si_base.specs.GivenGraph.{Sg}
use Rattle.si_base.specs.Netlist.{Gate, SumGate, Gc, Cell, Netlist}
use Rattle.si_base.specs.Words.{text_of}
use Rattle.si_circuit.specs.Circuits.{circuit_of}
use Rattle.si_circuit.specs.declared.style.Style.TheVariants.{Complex}
use Rattle.si_handshakes.specs.Handshakes.{IsHandshakes}
use Rattle.si_insert.specs.Lineage.{given_history}
use Rattle.si_refusals.specs.Refusal.{TextRefusal}
use Rattle.si_refusals.specs.Stages.{Stage, shows}
use Rattle.si_readings.specs.Checks.{IsSound}
use Rattle.si_reports.specs.Reports.{count_line}

-- the number of literals of the cubes of a gate's sums
abbrev pub gate_literals : Gate → ℕ
gate_literals (SumGate sum) = sum_by length sum
gate_literals (Gc set reset) = sum_by length set + sum_by length reset
gate_literals (Cell name literals sum) = sum_by length sum

-- the number of literals of the cubes of all gates
abbrev pub literals_of : Netlist → ℕ
literals_of netlist = sum_by gate_literals netlist.gates

-- how many handshakes; how many states and arcs their graph has; how many gates and literals its
-- netlist has
abbrev pub exercise_text : (n states arcs : ℕ) → Netlist → List ℕ
exercise_text n states arcs netlist = text_of (count_line (codes "exercise") n
    ∷ count_line (codes "states") states
    ∷ count_line (codes "arcs") arcs
    ∷ count_line (codes "gates") (length netlist.gates)
    ∷ count_line (codes "literals") (literals_of netlist)
    ∷ [])

-- the output counts what the graph of n handshakes has, and what its netlist of complex gates has,
-- which implements it with nothing inserted
pub record IsExercise (n : ℕ) (output : List ℕ) : Type 0 where
  pub given : Sg
  pub handshakes : IsHandshakes n given
  pub coded : CodedGraph
  pub sound : IsSound given.graph coded
  pub netlist : Netlist
  pub gates_are : netlist ≡ circuit_of Complex given.model given.states (given_history coded)
  pub implements : Implements netlist given.graph
  pub output_is : output
      ≡ exercise_text n given.graph.states (length given.graph.edges) netlist

-- it comes to that output, and refuses nothing
abbrev pub exercise : (n : ℕ) → Stage TextRefusal (List ℕ)
exercise n = shows (IsExercise n)
