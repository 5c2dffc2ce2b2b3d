use Rattle.std.proofs.Common.{Option, None, ℕ, sym, subst}
use Rattle.si_base.specs.Codes.{CodedGraph}
use Rattle.si_base.specs.Proper.{IsConflict, pair_place}
use Rattle.si_checks.specs.Loops.Searches.{IsFirstOrNone}
use Rattle.si_listings.proofs.cover_listing.list_covers.Goals as goal

pub known-requires : goal.known-requires
known-requires c = λ pair is.
    let P : Option (ℕ × ℕ) → Type 0 = λ found. IsFirstOrNone pair_place (IsConflict c.coded.result.now) found in
    let none : P None = subst P c.in-None.is c.in_ok-found.ensures in
    let Q : CodedGraph → Type 0 = λ d. IsConflict d pair in
    none pair (subst Q (sym c.coded.ensures.same) is)
