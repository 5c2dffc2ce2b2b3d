use Rattle.si_listings.proofs.ListingsExist.{some_region_text, some_conflict_text}
use Rattle.si_listings.proofs.CoverLemmas.{some_cover_text}
use Rattle.si_listings.proofs.laws.listings_exist.Goals as goal

pub returns-clause-regions : goal.returns-clause-regions
returns-clause-regions c = some_region_text

pub returns-clause-conflicts : goal.returns-clause-conflicts
returns-clause-conflicts c = some_conflict_text

pub returns-clause-covers : goal.returns-clause-covers
returns-clause-covers c = some_cover_text
