-- Each coded graph has the least monotonous cubes that pin literals ask for.
use Rattle.std.proofs.Common.{◌≡◌, ◌++◌, ℕ, zero, suc, ◌+◌, ◌<◌, ◌≤◌, List, [], ◌∷◌, length, take, get_or, Contains}
use Rattle.std.proofs.Common.{refl, sym, subst, arith, inl, inr}
use Rattle.std.proofs.lemmas.Bool.{cases_eq}
use Rattle.std.proofs.lemmas.List.{take_all, get_or_default}
use Rattle.si_base.specs.declared.ids.Literal.{Literal}
use Rattle.si_base.specs.Graph.{rise}
use Rattle.si_base.specs.Codes.{CodedGraph, IsCoded}
use Rattle.si_regions.specs.declared.regions.Region.{Region}
use Rattle.si_regions.specs.Regions.{IsRegion}
use Rattle.si_checks.proofs.SearchDecisions.{both}
use Rattle.si_regions.proofs.RegionsExist.{some_regions}
use Rattle.si_cover.proofs.MonosExist.{least_or_none}
use Rattle.si_divisor.specs.Loops.PinTests.{AreCubesFor, AreCubesOf}
use Rattle.si_divisor.proofs.PinRegionCubes.{none_yet, with_cube, without_cube, all_found}

no_region : Region
no_region = record { event = rise 0; er = []; sr = []; qr = [] }

module _ (c : CodedGraph) (z : ℕ) (items : List Region) (are : (r : Region) → Contains items r → IsRegion c r) where
  abbrev Found : ℕ → Type 0
  Found i = (cubes : List (List Literal)) × AreCubesFor c z (take i items) cubes

  found_next : (i : ℕ) → i < length items → Found i → Found (i + 1)
  found_next i inside (cubes, before) =
      let r = get_or items i no_region in
      let at : r ≡ get_or items i r = get_or_default items i no_region r inside in
      let is = are r (i, inside, sym at) in
      let (first, in_er) = is.excited.some in
      elim (both (cases_eq r.event.sig z) (least_or_none c r.er r.qr first in_er)) [
        | inl (event, (cube, least)) ↦ (
          cubes ++ cube ∷ [],
          with_cube c z items i r inside at cubes before is cube (cubes ++ cube ∷ []) event least refl,
        )
        | inr none ↦ (
          cubes,
          without_cube c z items i r inside at cubes before (λ event cube least. none (event, (cube, least))),
        )
      ]

  found_to : (i : ℕ) → i ≤ length items → Found i
  found_to zero within = ([], none_yet c z)
  found_to (suc i) within =
      let next : i + 1 ≡ suc i = omega arith in
      subst Found next (found_next i (omega (arith, within)) (found_to i (omega (arith, within))))

pub some_cubes : (c : CodedGraph) (z : ℕ) → IsCoded c → (cubes : List (List Literal)) × AreCubesOf c z cubes
some_cubes c z coded =
    let (regions, are) = some_regions c coded in
    let (cubes, found) = found_to c z regions are.each (length regions) (omega arith) in
    let all : take (length regions) regions ≡ regions = take_all (length regions) regions (omega arith) in
    (cubes, all_found c z regions cubes are (subst (λ rs. AreCubesFor c z rs cubes) all found))
