-- (command) What `certify` means over the texts of a graph and of equations, or of modules of
-- Verilog that are read as equations: the netlist of the equations beside the graph, with the lines
-- of the insertions that its gates tell, or the first cause against it.
use Rattle.std.specs.Prelude.{◌≡◌, ℕ, ◌<◌, ◌≤◌, List, length, Some, None, Result, Ok, Err}
use Rattle.si_base.specs.declared.fault.TextKind.{TextKind}
use Rattle.si_base.specs.declared.graph.Signal.{Signal}
use Rattle.si_base.specs.Codes.{CodedGraph}
use Rattle.si_base.specs.GivenGraph.{Sg}
use Rattle.si_base.specs.Netlist.{Netlist}
use Rattle.si_equations.specs.Equations.{Equations, equations_in}
use Rattle.si_from_equations.specs.Beside.{all_signals, hidden_names, lists_place, netlist_beside}
use Rattle.si_from_equations.specs.Beside.{unsummed}
use Rattle.si_readings.specs.Checks.{proper}
use Rattle.si_readings.specs.Readings.{graph_in}
use Rattle.si_refusals.specs.Refusal.{TextRefusal, BadText, ListsDiffer, Rejected}
use Rattle.si_refusals.specs.Stages.{Stage, ◌>>=◌}
use Rattle.si_refusals.specs.declared.rejection.NamedRejection.TheVariants.{Hidden, Products}
use Rattle.si_verilog_reader.specs.Comments.{without_comments}
use Rattle.si_verilog_reader.specs.Modules.{modules_in}
use Rattle.si_certify_equations.specs.declared.form.Form.{Form}
use Rattle.si_certify_equations.specs.declared.form.Form.TheVariants as forms
use Rattle.si_certify_equations.specs.Limits.{max_hidden}
use Rattle.si_certify_equations.specs.Starts.{spelled_first}

-- ---- texts

-- what is read of a text of that form: modules are read without their comments
abbrev pub code_of : Form → List ℕ → List ℕ
code_of forms.Equations text = text
code_of forms.Modules text = without_comments text

-- the equations that it spells, or its first fault
abbrev pub spelled_by : Form → (code : List ℕ) → Result Equations (ℕ × TextKind)
spelled_by forms.Equations code = equations_in code
spelled_by forms.Modules code = modules_in code

abbrev pub spelled_in : Form → List ℕ → Result Equations (ℕ × TextKind)
spelled_in form text = spelled_by form (code_of form text)

abbrev pub read_code : Form → (file code : List ℕ) → Stage TextRefusal Equations
read_code form file code (Ok e) = spelled_by form code ≡ Ok e
read_code form file code (Err refusal) = (at : ℕ × TextKind) × (spelled_by form code ≡ Err at)
    × (refusal ≡ BadText file at.0 at.1)

abbrev pub read_equations : Form → (file text : List ℕ) → Stage TextRefusal Equations
read_equations form file text = read_code form file (code_of form text)

-- ---- the netlist

-- the equations have the signals of the graph, and no further input: else the first place at which
-- they haven't
abbrev pub match_signals : (file : List ℕ) → List Signal → Equations
    → Stage TextRefusal (Unit {0})
match_signals file given e (Ok _) = lists_place given e ≡ None
match_signals file given e (Err refusal) =
    (place : ℕ) × (lists_place given e ≡ Some place) × (refusal ≡ ListsDiffer file place)

-- not too many signals are hidden, else their number
abbrev pub few_hidden : ℕ → Stage TextRefusal (Unit {0})
few_hidden count (Ok _) = count ≤ max_hidden
few_hidden count (Err refusal) = (max_hidden < count) × (refusal ≡ Rejected (Hidden count))

-- the netlist of the equations, else the first signal whose expression has too many products
abbrev pub netlist_of_sums : (model : List ℕ) → CodedGraph → Equations → Stage TextRefusal Netlist
netlist_of_sums model coded e (Ok n) =
    (unsummed (all_signals coded.graph.signals e) e ≡ None) × (n ≡ netlist_beside model coded e)
netlist_of_sums model coded e (Err refusal) = (signal : List ℕ)
    × (unsummed (all_signals coded.graph.signals e) e ≡ Some signal)
    × (refusal ≡ Rejected (Products signal))

abbrev pub netlist_of_equations : (file model : List ℕ) → CodedGraph → Equations
    → Stage TextRefusal Netlist
netlist_of_equations file model coded e = do
  _ ← match_signals file coded.graph.signals e
  _ ← few_hidden (length (hidden_names coded.graph.signals e))
  netlist_of_sums model coded e

-- ---- the netlist with its lines

abbrev pub certified_on : (file : List ℕ) → Sg → Equations → Stage TextRefusal (List ℕ)
certified_on file given e = do
  coded ← proper given.graph given.states
  netlist ← netlist_of_equations file given.model coded e
  spelled_first given.states coded netlist

abbrev pub certify_equations : Form → (graph graph_text equations equations_text : List ℕ)
    → Stage TextRefusal (List ℕ)
certify_equations form graph graph_text equations equations_text = do
  given ← graph_in graph graph_text
  read ← read_equations form equations equations_text
  certified_on equations given read
