use Rattle.std.proofs.Common.{◌≡◌, ◌+◌, ◌<◌, ◌≤◌, ◌∙◌, sym, subst, length, get_or, take, List, ℕ, rules}
use Rattle.std.proofs.lemmas.List.{take_all}
use Rattle.si_base.specs.Codes.{CodedGraph}
use Rattle.si_checks.specs.Loops.Lent.{coded_of}
use Rattle.si_regions.specs.declared.regions.Region.{Region}
use Rattle.si_regions.specs.Regions.{IsRegion, AreRegions}
use Rattle.si_divisor.specs.Loops.PinTests.{AreCubesFor}
use Rattle.si_divisor.proofs.PinRegionCubes.{with_cube, without_cube, all_found}
use Rattle.si_divisor.proofs.pins.least_cubes.Goals as goal
use Rattle.si_divisor.proofs.pins.least_cubes.Goals.{in-Some+in_ok-push, in_default}

-- the regions that are gone through are those of the graph
are_regions : (c g : CodedGraph) (all items : List Region) → g ≡ c → items ≡ all → AreRegions g all
    → AreRegions c items
are_regions c g all items same shown are =
    subst (λ (x : CodedGraph). AreRegions x items) same (subst (AreRegions g) (sym shown) are)

is_region : (c : CodedGraph) (items : List Region) (i : ℕ) (r : Region) → AreRegions c items → i < length items
    → r ≡ get_or items i r → IsRegion c r
is_region c items i r are inside at = are.each r (i, inside, sym at)

pub cube_for-requires : goal.cube_for-requires
cube_for-requires c =
    is_region (coded_of c.args.graph) c.deref-region-items.result.now c.loop-region.region-index c.region-item.result
    (are_regions (coded_of c.args.graph) c.coded.result.now c.in_ok-all.all.items c.deref-region-items.result.now
    (c.coded.ensures.same ∙ c.proper.ensures.same) c.deref-region-items.ensures.value c.in_ok-all.ensures)
    c.loop-region-test.true c.region-item.is

pub loop-region-preserved : goal.loop-region-preserved
loop-region-preserved c =
    let graph = coded_of c.args.graph in
    let items = c.deref-region-items.result.now in
    let i = c.loop-region.region-index in
    let r = c.region-item.result in
    let are = are_regions graph c.coded.result.now c.in_ok-all.all.items items
    (c.coded.ensures.same ∙ c.proper.ensures.same) c.deref-region-items.ensures.value c.in_ok-all.ensures in
    elim c.match-cube_for.branch [
      | in-Some+in_ok-push w ↦ (
          let new : c.match-cube_for.cubes.items ≡ w.push.new.self.items = search rules in
          with_cube graph c.args.z items i r c.loop-region-test.true c.region-item.is c.loop-region.cubes.items
          c.loop-region.invariant (is_region graph items i r are c.loop-region-test.true c.region-item.is)
          w.in-Some.cube c.match-cube_for.cubes.items w.in-Some.ensures.0 w.in-Some.ensures.1
          (new ∙ w.in_ok-push.ensures.items))
      | in_default w ↦ (
          let old : c.match-cube_for.cubes.items ≡ c.loop-region.cubes.items = search rules in
          subst (AreCubesFor graph c.args.z (take (i + 1) items)) (sym old)
          (without_cube graph c.args.z items i r c.loop-region-test.true c.region-item.is c.loop-region.cubes.items
          c.loop-region.invariant w.in_default.ensures))
    ]

pub returns : goal.returns
returns c =
    let graph = coded_of c.args.graph in
    let items = c.deref-region-items.result.now in
    let i = c.loop-region.region-index in
    let are = are_regions graph c.coded.result.now c.in_ok-all.all.items items
    (c.coded.ensures.same ∙ c.proper.ensures.same) c.deref-region-items.ensures.value c.in_ok-all.ensures in
    let past : length items ≤ i = search rules in
    all_found graph c.args.z items c.loop-region.cubes.items are
    (subst (λ rs. AreCubesFor graph c.args.z rs c.loop-region.cubes.items) (take_all i items past)
    c.loop-region.invariant)
