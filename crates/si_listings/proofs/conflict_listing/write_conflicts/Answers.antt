use Rattle.std.proofs.Common.{◌∙◌}
use Rattle.si_listings.proofs.ListingLemmas.{conflicts_by_calls}
use Rattle.si_listings.proofs.conflict_listing.write_conflicts.Goals as goal

pub returns : goal.returns
returns c = conflicts_by_calls c.args.states.now c.args.count c.args.pairs.now _ _ _ _
    (c.as_bytes.ensures.value ∙ c.in-Ok.ensures.ok) c.in_ok-text.ensures c.in_ok-add_line.ensures
    c.in_ok-add_pairs.ensures
