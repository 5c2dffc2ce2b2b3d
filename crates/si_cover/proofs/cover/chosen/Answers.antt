use Rattle.std.proofs.Common.{◌≡◌, ◌∙◌, ℕ, List, sym, ap, subst, length}
use Rattle.std.proofs.lemmas.Result.{IfOk-weaker}
use Rattle.si_base.specs.Codes.{CodedGraph, IsCoded}
use Rattle.si_base.specs.Graph.{StateGraph}
use Rattle.si_base.specs.Netlist.{Sum}
use Rattle.si_checks.specs.Loops.Lent.{coded_of}
use Rattle.si_cube.specs.Covers.{IsMeetable, IsPrimeCover}
use Rattle.si_cube.specs.Order.{HaveSame}
use Rattle.si_cube.proofs.OrderLemmas.{same_itself}
use Rattle.si_cover.specs.Demands.{chosen_sum, demand, is_required, is_forbidden}
use Rattle.si_cover.proofs.DemandLemmas.{all_fit, still_meetable, still_chosen, meetable, chosen_is_prime_cover}
use Rattle.si_cover.proofs.cover.chosen.Goals as goal

pub sum_of_codes-requires-clause-required_fit : goal.sum_of_codes-requires-clause-required_fit
sum_of_codes-requires-clause-required_fit c =
    let signals : length c.signals-signals.result.now ≡ length c.coded-coded.result.now.graph.signals =
    ap length (c.signals-signals.ensures ∙ ap (λ (g : StateGraph). g.signals) c.graph.ensures.same) in
    all_fit c.coded-coded.result.now
    (is_required c.args.kind c.coded-coded.result.now c.args.z) _ _ _ c.graph.ensures.coded signals
    (c.as_slice.ensures.value ∙ c.in_ok-required.ensures.required) (same_itself c.as_slice.result.now)

pub sum_of_codes-requires-clause-forbidden_fit : goal.sum_of_codes-requires-clause-forbidden_fit
sum_of_codes-requires-clause-forbidden_fit c =
    let signals : length c.signals-signals.result.now ≡ length c.coded-coded.result.now.graph.signals =
    ap length (c.signals-signals.ensures ∙ ap (λ (g : StateGraph). g.signals) c.graph.ensures.same) in
    let Same : List ℕ → Type 0 = λ ks. HaveSame ks c.in_ok-required.field-0.forbidden.items in
    all_fit c.coded-coded.result.now
    (is_forbidden c.args.kind c.coded-coded.result.now c.args.z) _ _ _ c.graph.ensures.coded signals
    c.in_ok-required.ensures.forbidden (subst Same (sym c.as_slice-2.ensures.value) c.in_order-forbidden.ensures.same)

pub sum_of_codes-requires-clause-meetable : goal.sum_of_codes-requires-clause-meetable
sum_of_codes-requires-clause-meetable c =
    let same : c.coded-coded.result.now ≡ (coded_of c.args.graph) =
    c.coded-coded.ensures.same ∙ c.proper.ensures.same in
    let coded : IsCoded (coded_of c.args.graph) = subst IsCoded same c.graph.ensures.coded in
    let CanBeMet : CodedGraph → Type 0 = λ d. IsMeetable (demand c.args.kind d c.args.z) in
    let met =
    subst CanBeMet (sym same) (meetable c.args.kind
    (coded_of c.args.graph) c.args.z coded c.proper.ensures.distinct c.requires) in
    let Same : List ℕ → Type 0 = λ ks. HaveSame ks c.in_ok-required.field-0.forbidden.items in
    still_meetable c.args.kind c.coded-coded.result.now c.args.z _ _ _ met
    (c.as_slice.ensures.value ∙ c.in_ok-required.ensures.required) c.in_ok-required.ensures.forbidden
    (subst Same (sym c.as_slice-2.ensures.value) c.in_order-forbidden.ensures.same)

pub returns-clause-chosen : goal.returns-clause-chosen
returns-clause-chosen c =
    let same : c.coded-coded.result.now ≡ (coded_of c.args.graph) =
    c.coded-coded.ensures.same ∙ c.proper.ensures.same in
    let signals : length c.signals-signals.result.now ≡ length c.coded-coded.result.now.graph.signals =
    ap length (c.signals-signals.ensures ∙ ap (λ (g : StateGraph). g.signals) c.graph.ensures.same) in
    let Same : List ℕ → Type 0 = λ ks. HaveSame ks c.in_ok-required.field-0.forbidden.items in
    let is =
    still_chosen c.args.kind c.coded-coded.result.now c.args.z _ _ _ _ signals
    (c.as_slice.ensures.value ∙ c.in_ok-required.ensures.required) c.in_ok-required.ensures.forbidden
    (subst Same (sym c.as_slice-2.ensures.value) c.in_order-forbidden.ensures.same)
    ∙ ap (λ (d : CodedGraph). chosen_sum c.args.kind d c.args.z) same in
    IfOk-weaker c.sum_of_codes.result _ _ (λ (sum : Sum) made. made ∙ is) c.sum_of_codes.ensures.chosen

pub returns-clause-prime_cover : goal.returns-clause-prime_cover
returns-clause-prime_cover c =
    let same : c.coded-coded.result.now ≡ (coded_of c.args.graph) =
    c.coded-coded.ensures.same ∙ c.proper.ensures.same in
    let coded : IsCoded (coded_of c.args.graph) = subst IsCoded same c.graph.ensures.coded in
    IfOk-weaker c.sum_of_codes.result _ _ (λ (sum : Sum) is.
    subst (IsPrimeCover (demand c.args.kind (coded_of c.args.graph) c.args.z)) (sym is)
    (chosen_is_prime_cover c.args.kind (coded_of c.args.graph) c.args.z coded c.proper.ensures.distinct
    c.requires)) (returns-clause-chosen c)
