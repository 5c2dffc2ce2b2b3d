use Rattle.si_words.proofs.WritingLemmas.{left_as}
use Rattle.si_listings.proofs.CoverLemmas.{sum_by_calls}
use Rattle.si_listings.proofs.cover_listing.add_sum_line.Goals as goal

pub returns : goal.returns
returns c = left_as _ _ _ _ (sum_by_calls c.args.text.now c.args.word.now c.args.signals.now c.args.z c.args.sum.now
    c.signal_name.result.now _ _ _ c.signal_name.ensures c.in_ok-add.ensures.added c.in_ok-add_word.ensures
    c.in_ok-add_sum.ensures) c.add-2.ensures.added
