-- (command) What `certify` means over the texts of its files: the netlist with the lines of the
-- insertions that its gates tell, or the first reason why there are none.
use Rattle.std.specs.Prelude.{◌≡◌, ℕ, ◌+◌, ◌-◌, ◌/◌, ◌^◌, List, length, Ok, Err}
use Rattle.si_audit.specs.declared.fault.AuditFault.TheVariants as fault
use Rattle.si_audit.specs.Faults.{refused_word}
use Rattle.si_base.specs.declared.graph.Signal.{Signal}
use Rattle.si_base.specs.Codes.{CodedGraph}
use Rattle.si_base.specs.Graph.{StateGraph}
use Rattle.si_base.specs.Netlist.{Netlist}
use Rattle.si_base.specs.NetlistText.{name_of, netlist_text}
use Rattle.si_certified.specs.Bare.{with_lines}
use Rattle.si_circuit.specs.Spelling.{current_word, insertions_of, state_word}
use Rattle.si_finder.specs.NotFound.{ShowsNotFound}
use Rattle.si_finder.specs.declared.not_found.Difference.{Difference}
use Rattle.si_finder.specs.declared.not_found.Difference.TheVariants as differs
use Rattle.si_finder.specs.declared.not_found.NotFound.{NotFound}
use Rattle.si_finder.specs.declared.not_found.NotFound.TheVariants as none
use Rattle.si_finder.specs.declared.not_found.Obstacle.{Obstacle}
use Rattle.si_finder.specs.declared.not_found.Obstacle.TheVariants as obstacle
use Rattle.si_found.specs.Found.{Fits}
use Rattle.si_insert.specs.Lineage.{History}
use Rattle.si_reached.specs.declared.state.Reached.{Reached}
use Rattle.si_readings.specs.Checks.{match_lists, proper}
use Rattle.si_readings.specs.Readings.{audit_readings}
use Rattle.si_refusals.specs.Refusal.{TextRefusal, Rejected}
use Rattle.si_refusals.specs.Stages.{Stage, ◌>>=◌}
use Rattle.si_refusals.specs.declared.rejection.NamedRejection.{NamedRejection}
use Rattle.si_refusals.specs.declared.rejection.NamedRejection.TheVariants.{Astray, TooMany}
use Rattle.si_refusals.specs.declared.rejection.NamedRejection.TheVariants.{NeverUp, NeverDown}
use Rattle.si_refusals.specs.declared.rejection.NamedRejection.TheVariants.{Both, Classes}
use Rattle.si_refusals.specs.declared.rejection.NamedRejection.TheVariants.{Start, Gate}
use Rattle.si_stages.specs.Audited.{IsNamedSo}
use Rattle.si_certify.specs.Hidden.{hiding}

-- ---- reasons by their names
-- the number, from 1, of the insertion that is next after those of the lineage
abbrev pub turn : History → ℕ
turn l = length l.trace + 1

-- the word of a state that the circuit reaches: the name of the graph's state, `@`, and the values
-- of all hidden signals
abbrev pub reached_word : (states : List (List ℕ)) → (given : ℕ) → List Signal → Reached → List ℕ
reached_word states given signals x = state_word states (length signals - given)
    (record { origin = x.state; bits = x.values / 2 ^ given })

-- why the next signal isn't inserted into the lineage
abbrev pub TellsObstacle : (states : List (List ℕ)) → List Signal → History → Obstacle
    → NamedRejection → Type 0
TellsObstacle states signals l obstacle.NeverUp reason = reason ≡ NeverUp (turn l)
TellsObstacle states signals l obstacle.NeverDown reason = reason ≡ NeverDown (turn l)
TellsObstacle states signals l (obstacle.Both s) reason =
    reason ≡ Both (turn l) (current_word states l s)
TellsObstacle states signals l (obstacle.Classes s) reason = reason ≡ Classes (turn l)
TellsObstacle states signals l (obstacle.Refused why) reason =
    IsNamedSo signals (fault.Refused (turn l) (refused_word states l why) why) reason

-- how the netlist differs from the last graph
abbrev pub TellsDifference : (states : List (List ℕ)) → List Signal → History → Difference
    → NamedRejection → Type 0
TellsDifference states signals l (differs.Start sig) reason = reason ≡ Start (name_of signals sig)
TellsDifference states signals l (differs.Gate sig s) reason =
    reason ≡ Gate (name_of signals sig) (current_word states l s)

-- why no lineage fits: the graph has so many signals
abbrev pub TellsNotFound : (states : List (List ℕ)) → (given : ℕ) → List Signal → NotFound
    → NamedRejection → Type 0
TellsNotFound states given signals none.NoMemory reason = ⊥
TellsNotFound states given signals none.TooMany reason = reason ≡ TooMany
TellsNotFound states given signals (none.Astray at sig) reason =
    reason ≡ Astray (name_of signals sig) (reached_word states given signals at)
TellsNotFound states given signals (none.Hindered l why) reason =
    TellsObstacle states signals l why reason
TellsNotFound states given signals (none.Unbuilt l why) reason =
    TellsDifference states signals l why reason

-- ---- the netlist with its lines
-- the output is the netlist with the lines that spell the lineage that fits it
pub record IsSpelled (states : List (List ℕ)) (coded : CodedGraph) (n : Netlist) (output : List ℕ)
    : Type 0 where
  pub lineage : History
  pub fits : Fits coded n lineage
  pub output_is : output ≡ netlist_text (with_lines (insertions_of states lineage) n)

-- no lineage fits, and the refusal shows the first reason
pub record IsUnfound (states : List (List ℕ)) (coded : CodedGraph) (n : Netlist)
    (refusal : TextRefusal) : Type 0 where
  pub why : NotFound
  pub shows : ShowsNotFound coded n why
  pub reason : NamedRejection
  pub told : TellsNotFound states (length coded.graph.signals) n.signals why reason
  pub refusal_is : refusal ≡ Rejected reason

abbrev pub spelling : (states : List (List ℕ)) → CodedGraph → Netlist → Stage TextRefusal (List ℕ)
spelling states coded n (Ok output) = IsSpelled states coded n output
spelling states coded n (Err refusal) = IsUnfound states coded n refusal

-- the netlist for the graph, of which the signals that the graph doesn't have are hidden
abbrev pub spelled_beside : (netlist : List ℕ) → (states : List (List ℕ)) → CodedGraph → Netlist
    → Stage TextRefusal (List ℕ)
spelled_beside netlist states coded n = do
  _ ← match_lists netlist coded (hiding (length coded.graph.signals) n)
  spelling states coded (hiding (length coded.graph.signals) n)

abbrev pub spelled_on : (netlist : List ℕ) → StateGraph → (states : List (List ℕ)) → Netlist
    → Stage TextRefusal (List ℕ)
spelled_on netlist graph states n = do
  coded ← proper graph states
  spelled_beside netlist states coded n

abbrev pub certify : (graph graph_text netlist netlist_text : List ℕ) → Stage TextRefusal (List ℕ)
certify graph graph_text netlist netlist_text = do
  readings ← audit_readings graph graph_text netlist netlist_text
  spelled_on netlist readings.given.graph readings.given.states readings.netlist
