use Rattle.si_listings.proofs.ListingLemmas.{state_more}
use Rattle.si_listings.proofs.words.add_states.Goals as goal

pub loop-s-preserved : goal.loop-s-preserved
loop-s-preserved c = state_more c.args.names.now c.args.states.now c.loop-s.s-index c.s-item.result c.name_at.result.now
    _
    c.loop-s.text c.add_word.new.text c.loop-s-test.true c.s-item.is c.loop-s.invariant c.name_at.ensures
    c.in_ok-add_word.ensures
