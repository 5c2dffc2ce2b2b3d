use Rattle.std.proofs.Common.{◌≡◌, ◌∙◌, sym, subst, List, ℕ, not, ◌||◌, nat_le, zip, true, false}
use Rattle.std.specs.List.{list_all}
use Rattle.si_cube.specs.Rule.{covers}
use Rattle.si_cube.proofs.NeededCounts.{sift_drop, sift_keep}
use Rattle.si_cube.proofs.needed.needed_cubes.Goals as goal

pub loop-cube-preserved-then-is_needless : goal.loop-cube-preserved-then-is_needless
loop-cube-preserved-then-is_needless c =
    let Passes : List ℕ
    → Type 0 =
    λ counts. list_all (λ (p : ℕ × ℕ). not (covers c.cube-item.result p.0) || nat_le 2 p.1)
    (zip c.args.required.now counts) ≡ true in
    sift_drop c.args.required.now c.args.cubes.now c.loop-cube.cube-index c.loop-cube.kept.items
    c.loop-cube.counts.items c.uncount.new.counts.items c.cube-item.result
    c.loop-cube-test.true c.cube-item.is c.loop-cube.invariant
    (subst Passes c.as_slice.ensures.value (sym c.is_needless.ensures ∙ c.if-is_needless.true))
    c.uncount.ensures.same_length c.uncount.ensures.fewer

pub loop-cube-preserved : goal.loop-cube-preserved
loop-cube-preserved c =
    let Fails : List ℕ
    → Type 0 =
    λ counts. list_all (λ (p : ℕ × ℕ). not (covers c.cube-item.result p.0) || nat_le 2 p.1)
    (zip c.args.required.now counts) ≡ false in
    rw (c.in_ok-push.ensures.items, c.copy_of.ensures)
    (sift_keep c.args.required.now c.args.cubes.now c.loop-cube.cube-index c.loop-cube.kept.items
    c.loop-cube.counts.items c.cube-item.result
    c.loop-cube-test.true c.cube-item.is c.loop-cube.invariant
    (subst Fails c.as_slice.ensures.value (sym c.is_needless.ensures ∙ c.if-is_needless.false)))
