use Rattle.si_words.proofs.WritingLemmas.{left_as}
use Rattle.si_listings.proofs.ListingLemmas.{set_by_calls}
use Rattle.si_listings.proofs.region_listing.add_set.Goals as goal

pub returns : goal.returns
returns c = left_as _ _ _ _ (set_by_calls c.args.text.now c.args.kind.now c.args.signals.now c.args.states.now
    c.args.e.now
    c.args.number.now c.args.set.now _ _ _ _ c.in_ok-add.ensures.added c.in_ok-add_event.ensures
    c.in_ok-add_word.ensures c.in_ok-add_states.ensures) c.add-2.ensures.added
