use Rattle.std.proofs.Common.{◌≡◌, ◌<◌, ◌*◌, length, get_or, sym, subst, arith}
use Rattle.std.proofs.lemmas.List.{get_or_read}
use Rattle.si_base.specs.declared.ids.Event.{Event}
use Rattle.si_base.specs.Graph.{event_place}
use Rattle.si_closures.proofs.WordLemmas.{none_barred, one_barred, place_below, passes_others}
use Rattle.si_closures.proofs.words.all_but.Goals as goal

pub loop-k-init : goal.loop-k-init
loop-k-init c =
    rw (c.in_ok-words.ensures.items_if_clones_equal (λ _ same. same))
    (none_barred (2 * c.args.signals) c.args.stops.now)

pub loop-k-preserved : goal.loop-k-preserved
loop-k-preserved c =
    let stops = c.args.stops.now in
    let k = c.loop-k.k in
    let x = c.index-stops-k.result in
    let words = c.loop-k.words.items in
    let w = c.index_mut.result.now in
    let inside : k < length stops = c.loop-k-test.true in
    let sig = subst (λ (e : Event). e.sig < c.args.signals) (sym c.index-stops-k.is) (c.requires.within k x inside) in
    let below = place_below x c.args.signals sig in
    let within : event_place x < length words = omega (arith, below, c.loop-k.invariant.size) in
    let is : w ≡ get_or words (event_place x) 0 =
    get_or_read words (event_place x) w within (rw c.place-at.ensures at c.index_mut.ensures.value) 0 in
    rw c.place-at.ensures
    (one_barred stops k x inside c.index-stops-k.is (omega (arith, inside, c.requires.few)) (2 * c.args.signals) w words
    c.loop-k.invariant within is)

pub returns-clause-passes : goal.returns-clause-passes
returns-clause-passes c k stop e at below =
    passes_others c.args.signals c.loop-k.k c.args.stops.now c.loop-k.words.items c.loop-k.invariant
    c.loop-k-test.false c.requires.few k stop e at below
