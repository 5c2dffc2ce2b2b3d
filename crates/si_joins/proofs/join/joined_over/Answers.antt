use Rattle.std.proofs.Common.{◌≡◌, ℕ, List, Ok, sym, ap, subst, ◌∙◌}
use Rattle.std.proofs.lemmas.Result.{IfOk-weaker}
use Rattle.si_base.specs.Codes.{CodedGraph}
use Rattle.si_base.specs.Graph.{StateGraph}
use Rattle.si_base.specs.Netlist.{Netlist}
use Rattle.si_base.specs.NetlistText.{netlist_text}
use Rattle.si_insert.specs.Lineage.{History, given_history}
use Rattle.si_joins.specs.Gates.{joined_netlist}
use Rattle.si_joins.specs.Join.{joined_over, passing}
use Rattle.si_joins.specs.Loops.Parts.{AreNamed}
use Rattle.si_joins.specs.Steps.{with_parts}
use Rattle.si_joins.proofs.PartFacts.{none_inserted}
use Rattle.si_readings.proofs.ReadingRefusals.{err_map, stops}
use Rattle.si_readings.proofs.StageLemmas.{stop_first, stop_next}
use Rattle.si_refusals.specs.Ending.{MayStop, ending_of}
use Rattle.si_refusals.specs.Stages.{Passes}
use Rattle.si_sg.specs.CanonicalText.{sg_text}
use Rattle.si_sg.specs.GivenGraph.{sg_now}
use Rattle.si_systems.specs.Loops.Composed.{composed_now}
use Rattle.si_systems.specs.Loops.Parts.{sgs_now}
use Rattle.si_joins.proofs.join.joined_over.Goals as goal

-- ---- over what the calls give
states_of : (l : History) (coded : CodedGraph) (graph : StateGraph) → l ≡ given_history coded → coded.graph ≡ graph
    → l.given.graph.states ≡ graph.states
states_of l coded graph is same = ap (λ (h : History). h.given.graph.states) is ∙ ap (λ (g : StateGraph). g.states) same

pub started-requires : goal.started-requires
started-requires c = none_inserted (sg_now c.args.whole.now.sg) c.args.proper c.requires.writable c.requires.sound

pub with_parts-requires-clause-count : goal.with_parts-requires-clause-count
with_parts-requires-clause-count c =
    c.requires.writable.count
    ∙ sym (states_of c.in_ok-begun.begun c.args.proper _ c.in_ok-begun.ensures c.requires.sound.same_graph)

pub with_parts-requires-clause-tuples : goal.with_parts-requires-clause-tuples
with_parts-requires-clause-tuples c =
    c.requires.tuples
    ∙ sym (states_of c.in_ok-begun.begun c.args.proper _ c.in_ok-begun.ensures c.requires.sound.same_graph)

pub with_parts-requires-clause-names : goal.with_parts-requires-clause-names
with_parts-requires-clause-names c =
    subst (λ (h : History). AreNamed h.current.coded.graph.signals) (sym c.in_ok-begun.ensures)
    (subst (λ (g : StateGraph). AreNamed g.signals) (sym c.requires.sound.same_graph) c.requires.writable.signals)

pub returns-in_err-lineage-clause-err : goal.returns-in_err-lineage-clause-err
returns-in_err-lineage-clause-err c =
    let given = sgs_now c.args.given.now in
    let netlists = c.args.netlists.now in
    let whole = composed_now c.args.whole.now in
    let may = subst (λ (h : History). MayStop (with_parts whole.sg.states whole.tuples h given netlists)
    (ending_of c.in_err-lineage.field-0.0)) c.in_ok-begun.ensures c.in_err-lineage.ensures.err in
    stops (joined_over given netlists whole c.args.proper) c.from_residual-in_err-lineage.result _
    c.from_residual-in_err-lineage.ensures.1 (stop_first _ _ _ may)

pub joined_netlist-requires-clause-spelled : goal.joined_netlist-requires-clause-spelled
joined_netlist-requires-clause-spelled c =
    record { model_name = c.requires.writable.model; names = c.in_ok-lineage.ensures.names }

pub joined_netlist-requires-clause-states : goal.joined_netlist-requires-clause-states
joined_netlist-requires-clause-states c =
    let given = ap (λ (k : CodedGraph). k.graph.states) c.in_ok-lineage.ensures.goes.given in
    record {
      count = c.requires.writable.count
          ∙ sym (given ∙ states_of c.in_ok-begun.begun c.args.proper _ c.in_ok-begun.ensures c.requires.sound.same_graph);
      each = c.requires.writable.states;
    }

-- the lineage of all parts, from the graph into which nothing is inserted
pub returns-clause-ok : goal.returns-clause-ok
returns-clause-ok c =
    let given = sgs_now c.args.given.now in
    let netlists = c.args.netlists.now in
    let whole = composed_now c.args.whole.now in
    let lineage = c.in_ok-lineage.lineage in
    let all = subst (λ (h : History). with_parts whole.sg.states whole.tuples h given netlists (Ok lineage))
    c.in_ok-begun.ensures c.in_ok-lineage.ensures.ok in
    let made = joined_netlist whole.sg.model whole.sg.states netlists lineage in
    IfOk-weaker c.passing.result
    (λ (text : List ℕ). passing (sg_text whole.sg) (netlist_text c.in_ok-netlist.netlist) (Ok text))
    (λ (text : List ℕ). joined_over given netlists whole c.args.proper (Ok text))
    (λ text told. Passes lineage all (subst (λ (n : Netlist). passing (sg_text whole.sg) (netlist_text n) (Ok text))
    c.in_ok-netlist.ensures told)) c.passing.ensures.ok

pub returns-clause-err : goal.returns-clause-err
returns-clause-err c =
    let given = sgs_now c.args.given.now in
    let netlists = c.args.netlists.now in
    let whole = composed_now c.args.whole.now in
    let lineage = c.in_ok-lineage.lineage in
    let all = subst (λ (h : History). with_parts whole.sg.states whole.tuples h given netlists (Ok lineage))
    c.in_ok-begun.ensures c.in_ok-lineage.ensures.ok in
    err_map c.passing.result (MayStop (passing (sg_text whole.sg) (netlist_text c.in_ok-netlist.netlist)))
    (MayStop (joined_over given netlists whole c.args.proper))
    (λ e may. stop_next _ _ lineage e all (subst (λ (n : Netlist). MayStop (passing (sg_text whole.sg)
    (netlist_text n)) e) c.in_ok-netlist.ensures may)) c.passing.ensures.err
