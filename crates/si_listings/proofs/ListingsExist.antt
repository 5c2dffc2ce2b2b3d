-- Each coded graph with names for its states has a text of its regions, and one of its conflicts.
use Rattle.std.proofs.Common.{ℕ, List, refl}
use Rattle.si_base.specs.Codes.{CodedGraph, IsCoded}
use Rattle.si_regions.proofs.RegionsExist.{some_regions}
use Rattle.si_conflicts.proofs.ConflictsExist.{some_count, some_first}
use Rattle.si_listings.specs.RegionText.{regions_text, IsRegionText}
use Rattle.si_listings.specs.ConflictText.{max_printed, conflicts_text, IsConflictText}

pub some_region_text : (c : CodedGraph) (states : List (List ℕ)) → IsCoded c
    → (text : List ℕ) × IsRegionText c states text
some_region_text c states coded =
    let all = some_regions c coded in (
      regions_text c.graph.signals states all.0,
      record { regions = all.0; are = all.1; text_is = refl },
    )

pub some_conflict_text : (c : CodedGraph) (states : List (List ℕ)) → (text : List ℕ) × IsConflictText c states text
some_conflict_text c states =
    let count = some_count c in
    let pairs = some_first c max_printed in (
      conflicts_text states count.0 pairs.0,
      record { count = count.0; counted = count.1; pairs = pairs.0; first = pairs.1; text_is = refl },
    )
