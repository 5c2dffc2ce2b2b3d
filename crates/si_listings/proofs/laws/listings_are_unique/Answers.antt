use Rattle.si_listings.proofs.ListingLemmas.{one_region_text, one_conflict_text}
use Rattle.si_listings.proofs.CoverLemmas.{one_cover_text}
use Rattle.si_listings.proofs.laws.listings_are_unique.Goals as goal

pub returns-clause-regions : goal.returns-clause-regions
returns-clause-regions c = one_region_text

pub returns-clause-conflicts : goal.returns-clause-conflicts
returns-clause-conflicts c = one_conflict_text

pub returns-clause-covers : goal.returns-clause-covers
returns-clause-covers c = one_cover_text
