use Rattle.std.proofs.Common.{List, sym, ap, subst, ◌∙◌}
use Rattle.std.proofs.lemmas.Result.{err_from_is_err_and}
use Rattle.si_base.specs.Codes.{CodedGraph}
use Rattle.si_base.specs.Graph.{StateGraph}
use Rattle.si_reached.specs.declared.state.Reached.{Reached}
use Rattle.si_reached.specs.Laws.{AreTold}
use Rattle.si_reached.specs.Reached.{ShowsWild}
use Rattle.si_finder.proofs.FindLemmas.{told_of, uninserted_shows, wild_shows}
use Rattle.si_finder.proofs.finder.find.Goals as goal

pub returns-in_err-reached-clause-none : goal.returns-in_err-reached-clause-none
returns-in_err-reached-clause-none c =
    let n = c.args.netlist.now in
    let w = c.in_err-reached.field-0.0 in
    let same = c.graph-2.ensures.same ∙ ap (λ (d : CodedGraph). d.graph) c.coded.ensures.same in
    let p = err_from_is_err_and c.from_residual.result c.from_residual.ensures.1 in
    rw (p.1, p.2) (wild_shows c.args.graph n w
    (subst (λ (g : StateGraph). ShowsWild g n w) same c.in_err-reached.ensures.fault))

pub with_all-requires-clause-told : goal.with_all-requires-clause-told
with_all-requires-clause-told c =
    let g = c.args.graph.graph in
    let n = c.args.netlist.now in
    let same = c.graph-2.ensures.same ∙ ap (λ (d : CodedGraph). d.graph) c.coded.ensures.same in
    let r = c.in_ok-reached.ensures in
    subst (λ (xs : List Reached). AreTold g n xs) (sym c.as_slice.ensures.value)
    (told_of g c.graph-2.result.now n c.in_ok-reached.reached.items same r.each r.order r.few)

pub returns-in_err-lineage-clause-none : goal.returns-in_err-lineage-clause-none
returns-in_err-lineage-clause-none c =
    let g = c.args.graph.graph in
    let n = c.args.netlist.now in
    let same = c.graph-2.ensures.same ∙ ap (λ (d : CodedGraph). d.graph) c.coded.ensures.same in
    let r = c.in_ok-reached.ensures in
    let told = told_of g c.graph-2.result.now n c.in_ok-reached.reached.items same r.each r.order r.few in
    let p = err_from_is_err_and c.from_residual-in_err-lineage.result c.from_residual-in_err-lineage.ensures.1 in
    rw (p.1, p.2) (uninserted_shows c.args.graph n c.in_err-lineage.field-0.0 (c.in_ok-reached.reached.items, told)
    c.in_err-lineage.ensures.stops)

pub returns-clause-none : goal.returns-clause-none
returns-clause-none c =
    let g = c.args.graph.graph in
    let n = c.args.netlist.now in
    let same = c.graph-2.ensures.same ∙ ap (λ (d : CodedGraph). d.graph) c.coded.ensures.same in
    let r = c.in_ok-reached.ensures in
    let told = told_of g c.graph-2.result.now n c.in_ok-reached.reached.items same r.each r.order r.few in
    ((c.in_ok-reached.reached.items, told), c.in_ok-lineage.ensures.found, c.in-Some.ensures)
