use Rattle.si_listings.proofs.ListingLemmas.{pair_more}
use Rattle.si_listings.proofs.conflict_listing.add_pairs.Goals as goal

pub loop-pair-preserved : goal.loop-pair-preserved
loop-pair-preserved c = pair_more c.args.states.now c.args.pairs.now c.loop-pair.pair-index c.pair-item.result
    c.name_at.result.now c.name_at-in-loop-pair.result.now _ c.loop-pair.text c.add_line.new.text c.loop-pair-test.true
    c.pair-item.is c.loop-pair.invariant c.name_at.ensures c.name_at-in-loop-pair.ensures c.in_ok-add_line.ensures
