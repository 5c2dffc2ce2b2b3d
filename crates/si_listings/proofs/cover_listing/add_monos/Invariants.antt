use Rattle.std.proofs.Common.{◌≡◌, ◌++◌, ◌≤◌, List}
use Rattle.si_checks.specs.Loops.Lent.{coded_of}
use Rattle.si_listings.specs.CoverText.{Component, AreComponents}
use Rattle.si_listings.proofs.CoverLemmas.{monos_from}
use Rattle.si_listings.proofs.NumberLemmas.{IsNumber}
use Rattle.si_listings.proofs.cover_listing.add_monos.Given as goal

abbrev pub invariant-loop-k : goal.invariant-loop-k
invariant-loop-k l =
    let c = coded_of l.fn.graph in
    record {
      text : (xs : List Component) → AreComponents c xs
          → l.text ++ monos_from c.graph.signals l.states l.z xs l.k
          ≡ l.initial.text ++ monos_from c.graph.signals l.states l.z xs 0;
      number : IsNumber l.regions l.k l.number;
      few : l.number ≤ l.k;
    }
