-- (law) The laws of regions, one word each.
use Rattle.std.specs.Prelude.{◌≡◌, ℕ, List, Contains}
use Rattle.si_base.specs.declared.ids.Event.{Event}
use Rattle.si_base.specs.Graph.{StateGraph}
use Rattle.si_base.specs.Codes.{CodedGraph, IsCoded}
use Rattle.si_regions.specs.declared.regions.Region.{Region}
use Rattle.si_regions.specs.Connected.{IsComponent}
use Rattle.si_regions.specs.Regions.{Enables, AreRegions}

-- two components of an event that share a state are one
abbrev pub ComponentsAreApart : Type 0
ComponentsAreApart = (g : StateGraph) (e : Event) (x y : List ℕ) (s : ℕ)
    → IsComponent g (Enables g e) x → IsComponent g (Enables g e) y → Contains x s → Contains y s
    → x ≡ y

-- a coded graph has one list of regions
abbrev pub RegionsAreUnique : Type 0
RegionsAreUnique = (c : CodedGraph) (xs ys : List Region) → AreRegions c xs → AreRegions c ys
    → xs ≡ ys

-- each coded graph has a list of regions
abbrev pub RegionsExist : Type 0
RegionsExist = (c : CodedGraph) → IsCoded c → (regions : List Region) × AreRegions c regions
