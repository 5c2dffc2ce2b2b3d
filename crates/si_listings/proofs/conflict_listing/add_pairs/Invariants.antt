use Rattle.std.proofs.Common.{◌≡◌, ◌++◌}
use Rattle.si_listings.proofs.ListingLemmas.{pairs_from}
use Rattle.si_listings.proofs.conflict_listing.add_pairs.Given as goal

abbrev pub invariant-loop-pair : goal.invariant-loop-pair
invariant-loop-pair l =
    l.text ++ pairs_from l.states l.pairs l.pair-index ≡ l.initial.text ++ pairs_from l.states l.pairs 0
