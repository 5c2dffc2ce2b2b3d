use Rattle.std.proofs.Common.{◌≡◌, ◌≤◌, ◌∙◌, ap, arith, length, subst}
use Rattle.si_base.specs.Codes.{CodedGraph, IsCoded}
use Rattle.si_base.specs.Graph.{StateGraph}
use Rattle.si_base.specs.Limits.{code_width}
use Rattle.si_checks.specs.Loops.Lent.{coded_of}
use Rattle.si_match.specs.Weight.{size_from}
use Rattle.si_bounds.specs.Loops.Supports.{AreGroups, ShowFurther}
use Rattle.si_bounds.proofs.SupportsLemmas.{all_known}
use Rattle.si_bounds.proofs.supports.known_support.Goals as goal

pub returns : goal.returns
returns c =
    let d = coded_of c.args.graph in
    let z = c.args.z in
    let same : c.coded-coded.result.now ≡ d = c.coded-coded.ensures.same ∙ c.proper.ensures.same in
    let coded = subst IsCoded same c.graph.ensures.coded in
    let count = ap length (c.signals-count.ensures
    ∙ ap (λ (g : StateGraph). g.signals) (c.graph.ensures.same ∙ ap (λ (e : CodedGraph). e.graph) same)) in
    let small : c.size.result ≤ code_width = omega (arith, c.size.ensures.few, count, coded.graph_is.few_signals) in
    let few : c.size-2.result ≤ code_width = omega (arith, c.size-2.ensures.few, count, coded.graph_is.few_signals) in
    all_known d z c.args.triggers (record {
      size = c.size.result;
      triggers = c.size-2.result;
      untold = c.in_ok-of.field-0;
      further = c.in_ok-further_groups.field-0;
    }) (subst (λ (e : CodedGraph). AreGroups e z c.args.triggers c.in_ok-of.field-0) same c.in_ok-of.ensures)
    (subst (λ (e : CodedGraph). ShowFurther e z c.args.triggers (length e.graph.signals)
    c.in_ok-further_groups.field-0.items) same c.in_ok-further_groups.ensures) coded c.proper.ensures.distinct
    c.requires.driven c.requires.triggers
    (c.size.ensures.size ∙ ap (λ n. size_from n 0 c.args.support) count
    ∙ ap (size_from (length d.graph.signals) 0) c.requires.support)
    (c.size-2.ensures.size ∙ ap (λ n. size_from n 0 c.args.triggers) count) small few
