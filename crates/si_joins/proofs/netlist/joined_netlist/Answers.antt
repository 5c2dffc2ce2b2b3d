use Rattle.std.proofs.Common.{◌∙◌, map, vec_items, sym, ap, subst}
use Rattle.si_base.specs.Codes.{CodedGraph}
use Rattle.si_base.specs.Graph.{StateGraph}
use Rattle.si_base.specs.WellFormed.{IsNetlist}
use Rattle.si_joins.specs.Loops.Parts.{ArePlaced}
use Rattle.si_joins.proofs.NetlistMade.{joined_is_netlist, made_joined}
use Rattle.si_joins.proofs.PlaceLemmas.{are_placed}
use Rattle.si_joins.proofs.netlist.joined_netlist.Goals as goal

pub joined_gates-requires-clause-placed : goal.joined_gates-requires-clause-placed
joined_gates-requires-clause-placed c =
    subst (ArePlaced c.args.parts.now) (sym (ap (map vec_items) c.deref.ensures.value ∙ c.in_ok-tos.ensures))
    (are_placed _ _ c.args.parts.now)

pub make-requires : goal.make-requires
make-requires c =
    let l = c.args.lineage.now in
    let given = c.signals-given.ensures ∙ ap (λ (g : StateGraph). g.signals) (c.graph.ensures.same
    ∙ ap (λ (d : CodedGraph). d.graph) (c.coded.ensures.same ∙ c.given.ensures.same)) in
    let is = made_joined c.args.model.now c.args.states.now c.args.parts.now l _ _ _ _ _ _ _ _ _ _ _ _
    (c.coded-coded.ensures.same ∙ c.current.ensures.same) c.graph-graph.ensures.same c.in_ok-signals.ensures
    c.signals.ensures given c.start.ensures c.code-start.ensures (c.in_ok-model.ensures ∙ c.bytes.ensures)
    c.in_ok-inserts.ensures c.in_ok-tos.ensures (ap (map vec_items) c.deref.ensures.value) c.in_ok-gates.ensures in
    subst IsNetlist (sym is) (joined_is_netlist c.args.model.now c.args.states.now c.args.parts.now l
    c.trace-trace.ensures.made c.current.ensures.kept c.requires.spelled c.requires.states c.requires.netlists)

pub returns : goal.returns
returns c =
    let l = c.args.lineage.now in
    let given = c.signals-given.ensures ∙ ap (λ (g : StateGraph). g.signals) (c.graph.ensures.same
    ∙ ap (λ (d : CodedGraph). d.graph) (c.coded.ensures.same ∙ c.given.ensures.same)) in
    c.make.ensures ∙ made_joined c.args.model.now c.args.states.now c.args.parts.now l _ _ _ _ _ _ _ _ _ _ _ _
    (c.coded-coded.ensures.same ∙ c.current.ensures.same) c.graph-graph.ensures.same c.in_ok-signals.ensures
    c.signals.ensures given c.start.ensures c.code-start.ensures (c.in_ok-model.ensures ∙ c.bytes.ensures)
    c.in_ok-inserts.ensures c.in_ok-tos.ensures (ap (map vec_items) c.deref.ensures.value) c.in_ok-gates.ensures
