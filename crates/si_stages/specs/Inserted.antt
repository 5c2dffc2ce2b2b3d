-- (command) What `resolve` and `insert` mean over the texts of their files: the graph after the
-- insertions that resolve its conflicts, or after those of a netlist, as a text.
use Rattle.std.specs.Prelude.{◌≡◌, ℕ, List, Ok, Err}
use Rattle.si_audit.specs.Audit.{TakesAll}
use Rattle.si_audit.specs.Faults.{ShowsRejection}
use Rattle.si_audit.specs.declared.fault.AuditFault.{AuditFault}
use Rattle.si_base.specs.Codes.{CodedGraph}
use Rattle.si_base.specs.GivenGraph.{Sg}
use Rattle.si_base.specs.Graph.{StateGraph}
use Rattle.si_base.specs.Netlist.{Netlist}
use Rattle.si_insert.specs.Lineage.{History, given_history}
use Rattle.si_inserted.specs.Current.{current_sg}
use Rattle.si_readings.specs.Checks.{match_lists, proper}
use Rattle.si_readings.specs.Readings.{audit_readings, graph_in}
use Rattle.si_refusals.specs.Refusal.{TextRefusal, Rejected}
use Rattle.si_refusals.specs.Stages.{Stage, ◌>>=◌, gives}
use Rattle.si_refusals.specs.declared.rejection.NamedRejection.{NamedRejection}
use Rattle.si_sg.specs.CanonicalText.{sg_text}
use Rattle.si_stages.specs.Audited.{IsNamedSo}
use Rattle.si_stages.specs.Resolving.{resolution}

-- the text of the current graph of a lineage, with that model name, where the given states have
-- these names; and no refusal
abbrev pub current_text : (model : List ℕ) (states : List (List ℕ)) → History
    → Stage TextRefusal (List ℕ)
current_text model states l = gives (sg_text (current_sg model states l))

-- the text of a graph after the insertions that resolve its conflicts
abbrev pub resolved_text : (model : List ℕ) (states : List (List ℕ)) → StateGraph
    → Stage TextRefusal (List ℕ)
resolved_text model states graph = do
  lineage ← resolution graph states
  current_text model states lineage

abbrev pub resolve : (file text : List ℕ) → Stage TextRefusal (List ℕ)
resolve file text = do
  given ← graph_in file text
  resolved_text given.model given.states given.graph

-- the refusal shows the first insertion of the netlist that isn't taken, and the first reason
-- against it
pub record IsInsertRejection (states : List (List ℕ)) (coded : CodedGraph) (n : Netlist)
    (refusal : TextRefusal) : Type 0 where
  pub fault : AuditFault
  pub shows : ShowsRejection states coded n fault
  pub reason : NamedRejection
  pub named : IsNamedSo n.signals fault reason
  pub refusal_is : refusal ≡ Rejected reason

-- the lineage of the graph, whose states have these names, that takes all insertions of the
-- netlist: else the first reason against one
abbrev pub lineage_with_insertions : (states : List (List ℕ)) → CodedGraph → Netlist
    → Stage TextRefusal History
lineage_with_insertions states coded n (Ok l) = TakesAll states (given_history coded) n.inserts l
lineage_with_insertions states coded n (Err refusal) = IsInsertRejection states coded n refusal

-- the text of a proper graph after the insertions of a netlist, whose gates aren't looked at
abbrev pub text_with_insertions : (model : List ℕ) (states : List (List ℕ)) → CodedGraph → Netlist
    → Stage TextRefusal (List ℕ)
text_with_insertions model states coded n = do
  lineage ← lineage_with_insertions states coded n
  current_text model states lineage

-- the same of a graph that is read
abbrev pub inserted_text : (netlist : List ℕ) → Sg → Netlist → Stage TextRefusal (List ℕ)
inserted_text netlist given n = do
  coded ← proper given.graph given.states
  _ ← match_lists netlist coded n
  text_with_insertions given.model given.states coded n

abbrev pub insert : (graph graph_text netlist netlist_text : List ℕ) → Stage TextRefusal (List ℕ)
insert graph graph_text netlist netlist_text = do
  readings ← audit_readings graph graph_text netlist netlist_text
  inserted_text netlist readings.given readings.netlist
