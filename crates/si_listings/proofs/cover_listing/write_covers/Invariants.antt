use Rattle.std.proofs.Common.{◌≡◌, ◌++◌, List}
use Rattle.si_checks.specs.Loops.Lent.{coded_of}
use Rattle.si_listings.specs.CoverText.{Component, AreComponents}
use Rattle.si_listings.proofs.CoverLemmas.{signals_from}
use Rattle.si_listings.proofs.cover_listing.write_covers.Given as goal

abbrev pub invariant-loop-i : goal.invariant-loop-i
invariant-loop-i l = (xs : List Component) → AreComponents (coded_of l.fn.graph) xs
    → l.text ++ signals_from (coded_of l.fn.graph) l.states xs l.i ≡ signals_from (coded_of l.fn.graph) l.states xs
    0
