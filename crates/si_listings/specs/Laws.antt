-- (law) The laws of the listings, one word each.
use Rattle.std.specs.Prelude.{◌≡◌, ℕ, List}
use Rattle.si_base.specs.Codes.{CodedGraph, IsCoded}
use Rattle.si_listings.specs.RegionText.{IsRegionText}
use Rattle.si_listings.specs.ConflictText.{IsConflictText}
use Rattle.si_listings.specs.CoverText.{IsCoverText}

-- a graph with names for its states has one text of regions
abbrev pub RegionTextsAreUnique : Type 0
RegionTextsAreUnique = (c : CodedGraph) (states : List (List ℕ)) (x y : List ℕ)
    → IsRegionText c states x → IsRegionText c states y → x ≡ y

-- and one of conflicts
abbrev pub ConflictTextsAreUnique : Type 0
ConflictTextsAreUnique = (c : CodedGraph) (states : List (List ℕ)) (x y : List ℕ)
    → IsConflictText c states x → IsConflictText c states y → x ≡ y

-- and one of covers
abbrev pub CoverTextsAreUnique : Type 0
CoverTextsAreUnique = (c : CodedGraph) (states : List (List ℕ)) (x y : List ℕ)
    → IsCoverText c states x → IsCoverText c states y → x ≡ y

-- each coded graph with names for its states has a text of regions
abbrev pub RegionTextsExist : Type 0
RegionTextsExist = (c : CodedGraph) (states : List (List ℕ)) → IsCoded c
    → (text : List ℕ) × IsRegionText c states text

-- and one of conflicts
abbrev pub ConflictTextsExist : Type 0
ConflictTextsExist = (c : CodedGraph) (states : List (List ℕ))
    → (text : List ℕ) × IsConflictText c states text

-- and one of covers
abbrev pub CoverTextsExist : Type 0
CoverTextsExist = (c : CodedGraph) (states : List (List ℕ)) → IsCoded c
    → (text : List ℕ) × IsCoverText c states text
