use Rattle.std.proofs.Common.{◌≤◌, ℕ, All, Contains, List, ap, arith, get_or, length, subst, sym}
use Rattle.std.proofs.lemmas.List.{get_or_default}
use Rattle.si_base.specs.Limits.{code_width}
use Rattle.si_bounds.specs.Loops.Needs.{HasSize, IsNeedAt}
use Rattle.si_bounds.specs.Loops.Points.{ArePoints, AreSmall, IsMissedByOne, IsMissedTold, places_of}
use Rattle.si_bounds.specs.declared.points.Missed.{Missed}
use Rattle.si_bounds.specs.declared.points.Places.{Places}
use Rattle.si_bounds.proofs.NeedLists.{none_added_yet, one_added, same_high, same_low}
use Rattle.si_bounds.proofs.NeedPoints.{exact_over, small_places, smaller_places, told_over}
use Rattle.si_bounds.proofs.needs.add_over.Goals as goal

abbrev no_missed : Missed
no_missed = record { at_zero = 0; at_one = 0 }

pub points_of-requires-clause-places : goal.points_of-requires-clause-places
points_of-requires-clause-places c =
    let count = length c.args.coded.now.graph.signals in
    let wide : count ≤ code_width = omega (arith, c.graph-given.ensures.coded.graph_is.few_signals) in
    subst (AreSmall code_width) (sym c.places_of-places.ensures)
    (smaller_places count code_width (places_of c.args.z c.args.chosen.now) wide
    (small_places count c.args.z c.args.chosen.now c.requires.signal c.requires.chosen))

pub loop-missed-init : goal.loop-missed-init
loop-missed-init c =
    let count = c.in_ok-points.ensures.count in
    none_added_yet c.in_ok-points.points.at.items c.deref-missed-items.result.now c.args.needs.now.items
    (subst (λ (n : ℕ). All (HasSize n) c.args.needs.now.items) (sym count) c.requires.sizes)

pub need_at-requires-clause-few : goal.need_at-requires-clause-few
need_at-requires-clause-few c =
    let count = c.in_ok-points.ensures.count in
    omega (arith, ap (length {A = ℕ}) c.deref.ensures.value, count, c.graph-given.ensures.coded.graph_is.few_states)

pub add_need-requires-clause-high : goal.add_need-requires-clause-high
add_need-requires-clause-high c =
    let count = c.in_ok-points.ensures.count in
    let sizes = subst (λ (n : ℕ). All (HasSize n) c.args.needs.now.items) (sym count) c.requires.sizes in
    same_high c.in_ok-points.points.at.items c.deref-missed-items.result.now c.args.needs.now.items sizes
    c.loop-missed.needs.items c.loop-missed.invariant.no_more c.deref.result.now c.deref.ensures.value
    (get_or c.deref-missed-items.result.now c.loop-missed.missed-index no_missed) c.in_ok-need.need c.in_ok-need.ensures

pub add_need-requires-clause-low : goal.add_need-requires-clause-low
add_need-requires-clause-low c =
    let count = c.in_ok-points.ensures.count in
    let sizes = subst (λ (n : ℕ). All (HasSize n) c.args.needs.now.items) (sym count) c.requires.sizes in
    same_low c.in_ok-points.points.at.items c.deref-missed-items.result.now c.args.needs.now.items sizes
    c.loop-missed.needs.items c.loop-missed.invariant.no_more c.deref.result.now c.deref.ensures.value
    (get_or c.deref-missed-items.result.now c.loop-missed.missed-index no_missed) c.in_ok-need.need c.in_ok-need.ensures

pub loop-missed-preserved : goal.loop-missed-preserved
loop-missed-preserved c =
    let points = c.in_ok-points.points.at.items in
    let least = c.deref-missed-items.result.now in
    let i = c.loop-missed.missed-index in
    let missed : Missed = get_or least i no_missed in
    let count = c.in_ok-points.ensures.count in
    let sizes = subst (λ (n : ℕ). All (HasSize n) c.args.needs.now.items) (sym count) c.requires.sizes in
    let is : IsNeedAt points missed c.in_ok-need.need =
    subst (λ (ps : List ℕ). IsNeedAt ps missed c.in_ok-need.need) c.deref.ensures.value c.in_ok-need.ensures in
    one_added points least c.args.needs.now.items sizes i c.loop-missed.needs.items c.add_need.new.needs.items
    c.loop-missed.invariant missed c.loop-missed-test.true
    (get_or_default least i no_missed missed c.loop-missed-test.true) c.in_ok-need.need is
    c.in_ok-add_need.ensures.added c.in_ok-add_need.ensures.kept c.in_ok-add_need.ensures.no_more

pub returns-clause-told : goal.returns-clause-told
returns-clause-told c =
    let coded = c.args.coded.now in
    let tables = c.args.tables.now in
    let points = c.in_ok-points.points in
    let least = c.deref-missed-items.result.now in
    let are = subst (λ (p : Places). ArePoints coded c.args.z p points) c.places_of-places.ensures c.in_ok-points.ensures in
    told_over coded c.args.z (places_of c.args.z c.args.chosen.now) points are tables least c.args.needs.now.items
    c.loop-missed.needs.items c.loop-missed.missed-index c.loop-missed-test.false c.loop-missed.invariant
    (subst (λ (ms : List Missed). (t : ℕ) → Contains tables t → IsMissedTold t points.seen ms)
    (sym c.deref-missed-items.ensures.value) c.in_ok-least.ensures.told)

pub returns-clause-no_more : goal.returns-clause-no_more
returns-clause-no_more c =
    let coded = c.args.coded.now in
    let tables = c.args.tables.now in
    let points = c.in_ok-points.points in
    let least = c.deref-missed-items.result.now in
    let are = subst (λ (p : Places). ArePoints coded c.args.z p points) c.places_of-places.ensures c.in_ok-points.ensures in
    exact_over coded c.args.z (places_of c.args.z c.args.chosen.now) points are tables least c.args.needs.now.items
    c.loop-missed.needs.items c.loop-missed.missed-index c.loop-missed-test.false c.loop-missed.invariant
    (small_places (length coded.graph.signals) c.args.z c.args.chosen.now c.requires.signal c.requires.chosen)
    (subst (All (IsMissedByOne tables points.seen)) (sym c.deref-missed-items.ensures.value)
    c.in_ok-least.ensures.no_more)
