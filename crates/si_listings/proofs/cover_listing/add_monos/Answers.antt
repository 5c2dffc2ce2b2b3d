use Rattle.std.proofs.Common.{◌≡◌, ◌+◌, ◌≤◌, ◌∙◌, arith, sym, take}
use Rattle.std.proofs.lemmas.Bool.{true≢false}
use Rattle.si_checks.specs.Loops.Lent.{coded_of}
use Rattle.si_listings.specs.RegionText.{number_after}
use Rattle.si_listings.proofs.CoverLemmas.{mono_step, monos_written, component_count}
use Rattle.si_listings.proofs.NumberLemmas.{goes_on_number, first_number, number_next}
use Rattle.si_listings.proofs.cover_listing.add_monos.Goals as goal
use Rattle.si_listings.proofs.cover_listing.add_monos.Goals.{then-repeats, else-repeats}

pub add_if_of-requires-clause-region : goal.add_if_of-requires-clause-region
add_if_of-requires-clause-region c = c.requires.regions.each c.index-regions-k.result
    (c.loop-k.k, c.loop-k-test.true, sym c.index-regions-k.is)

pub loop-k-preserved : goal.loop-k-preserved
loop-k-preserved c =
    let all = c.requires.regions in
    let regions = c.args.regions.now in
    let k = c.loop-k.k in
    let r = c.index-regions-k.result in
    let inside = c.loop-k-test.true in
    let at = c.index-regions-k.is in
    let number = c.if-repeats.number in
    let right : number ≡ number_after (take k regions) r = elim c.if-repeats.branch [
      | then-repeats w ↦ w.number-is ∙ goes_on_number regions k r inside at c.loop-k.number c.loop-k.invariant.number
          (c.repeats.ensures.0 w.if-repeats.true)
      | else-repeats w ↦ w.number-is ∙ first_number regions k r inside at all.in_order
          (λ on. true≢false (sym (c.repeats.ensures.1 on) ∙ w.if-repeats.false))
    ] in
    let few : number ≤ k + 1 = elim c.if-repeats.branch [
      | then-repeats w ↦ omega (arith, w.number-is, c.loop-k.invariant.few)
      | else-repeats w ↦ omega (arith, w.number-is)
    ] in
    record {
      text = λ xs are. mono_step (coded_of c.args.graph) c.args.states.now c.args.z xs regions k number r _
          c.loop-k.text c.add_if_of.new.text are all inside at right (c.loop-k.invariant.text xs are)
          c.in_ok-add_if_of.ensures;
      number = number_next regions k r inside at number right;
      few = few;
    }

pub returns : goal.returns
returns c = λ xs are.
    let k = coded_of c.args.graph in
    let count = component_count k xs c.args.regions.now are c.requires.regions in
    monos_written k.graph.signals c.args.states.now c.args.z xs c.loop-k.k c.loop-k.text c.args.text.now
    (omega (arith, count, c.loop-k-test.false)) (c.loop-k.invariant.text xs are)
