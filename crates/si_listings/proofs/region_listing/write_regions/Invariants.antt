use Rattle.std.proofs.Common.{◌≡◌, ◌++◌, ◌≤◌}
use Rattle.si_listings.proofs.ListingLemmas.{regions_from}
use Rattle.si_listings.proofs.NumberLemmas.{IsNumber}
use Rattle.si_listings.proofs.region_listing.write_regions.Given as goal

abbrev pub invariant-loop-k : goal.invariant-loop-k
invariant-loop-k l = record {
  text : l.text ++ regions_from l.graph.graph.signals l.states l.regions l.k
      ≡ regions_from l.graph.graph.signals l.states l.regions 0;
  number : IsNumber l.regions l.k l.number;
  few : l.number ≤ l.k;
}
