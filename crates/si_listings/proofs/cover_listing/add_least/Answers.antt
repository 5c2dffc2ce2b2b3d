use Rattle.std.proofs.Common.{subst}
use Rattle.si_cube.specs.Literals.{InSignalOrder}
use Rattle.si_cube.proofs.LiteralLemmas.{rising_of}
use Rattle.si_listings.proofs.cover_listing.add_least.Goals as goal

pub returns-clause-in_order : goal.returns-clause-in_order
returns-clause-in_order c =
    subst InSignalOrder c.cube.view_is (rising_of c.cube.inside.care c.cube.inside.value)
