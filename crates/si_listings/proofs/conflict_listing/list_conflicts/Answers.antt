use Rattle.si_listings.specs.ConflictText.{max_printed}
use Rattle.si_listings.proofs.ListingLemmas.{pairs_within}
use Rattle.si_listings.proofs.conflict_listing.list_conflicts.Goals as goal

pub write_conflicts-requires : goal.write_conflicts-requires
write_conflicts-requires c = rw c.as_slice.ensures.value
    (pairs_within c.args.graph.now max_printed c.args.states.now c.in_ok-pairs.pairs.items c.requires
    c.in_ok-pairs.ensures)
