use Rattle.std.proofs.Common.{◌≡◌, ◌+◌, ◌≤◌, ◌∙◌, arith, sym, take}
use Rattle.std.proofs.lemmas.Bool.{true≢false}
use Rattle.si_listings.specs.RegionText.{number_after}
use Rattle.si_listings.proofs.ListingLemmas.{region_more, regions_written}
use Rattle.si_listings.proofs.NumberLemmas.{goes_on_number, first_number, number_next, names_within, event_within}
use Rattle.si_listings.proofs.region_listing.write_regions.Goals as goal
use Rattle.si_listings.proofs.region_listing.write_regions.Goals.{then-repeats, else-repeats}

pub add_region-requires-clause-sig : goal.add_region-requires-clause-sig
add_region-requires-clause-sig c =
    let r = c.index-regions-k.result in
    let is = c.requires.regions.each r (c.loop-k.k, c.loop-k-test.true, sym c.index-regions-k.is) in
    rw (c.signals-signals.ensures, c.graph.ensures.same) (event_within c.args.graph.now r c.graph.ensures.coded is)

pub add_region-requires-clause-within : goal.add_region-requires-clause-within
add_region-requires-clause-within c =
    let r = c.index-regions-k.result in
    let is = c.requires.regions.each r (c.loop-k.k, c.loop-k-test.true, sym c.index-regions-k.is) in
    names_within c.args.graph.now c.args.states.now r c.graph.ensures.coded c.requires.states is

pub loop-k-preserved : goal.loop-k-preserved
loop-k-preserved c =
    let g = c.args.graph.now.graph in
    let states = c.args.states.now in
    let regions = c.args.regions.now in
    let k = c.loop-k.k in
    let r = c.index-regions-k.result in
    let inside = c.loop-k-test.true in
    let at = c.index-regions-k.is in
    let number = c.if-repeats.number in
    let right : number ≡ number_after (take k regions) r = elim c.if-repeats.branch [
      | then-repeats w ↦ w.number-is ∙ goes_on_number regions k r inside at c.loop-k.number c.loop-k.invariant.number
          (c.repeats.ensures.0 w.if-repeats.true)
      | else-repeats w ↦ w.number-is ∙ first_number regions k r inside at c.requires.regions.in_order
          (λ on. true≢false (sym (c.repeats.ensures.1 on) ∙ w.if-repeats.false))
    ] in
    let few : number ≤ k + 1 = elim c.if-repeats.branch [
      | then-repeats w ↦ omega (arith, w.number-is, c.loop-k.invariant.few)
      | else-repeats w ↦ omega (arith, w.number-is)
    ] in
    let added = rw (c.signals-signals.ensures, c.graph.ensures.same) at c.in_ok-add_region.ensures in
    record {
      text = region_more g.signals states regions k number r _ c.loop-k.text c.add_region.new.text inside
          c.loop-k.invariant.text at right added;
      number = number_next regions k r inside at number right;
      few = few;
    }

pub returns : goal.returns
returns c = regions_written c.args.graph.now.graph.signals c.args.states.now c.args.regions.now c.loop-k.k c.loop-k.text
    (omega (arith, c.loop-k-test.false)) c.loop-k.invariant.text
