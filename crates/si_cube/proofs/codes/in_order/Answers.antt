use Rattle.std.proofs.lemmas.List.Filters.{dedup_is}
use Rattle.std.proofs.lemmas.List.Kept.{Contains-dedup_nat, Contains-from_dedup}
use Rattle.std.proofs.lemmas.List.Sorted.{Contains-permutation, IsPermutation-sym}
use Rattle.std.proofs.lemmas.Map.Keys.{IsStrictlyIncreasing-dedup, sorted_from_strictly_increasing}
use Rattle.std.proofs.lemmas.Map.Keys.{non_decreasing_from_sorted}
use Rattle.si_cube.proofs.codes.in_order.Goals as goal

pub returns-clause-once : goal.returns-clause-once
returns-clause-once c =
    rw (dedup_is _ _ _ c.dedup.ensures.filtered)
    (sorted_from_strictly_increasing _ (IsStrictlyIncreasing-dedup _ c.sort_unstable.ensures.sorted))

pub returns-clause-in_order : goal.returns-clause-in_order
returns-clause-in_order c = non_decreasing_from_sorted _ (returns-clause-once c)

pub returns-clause-same : goal.returns-clause-same
returns-clause-same c =
    let is = dedup_is _ _ _ c.dedup.ensures.filtered in
    let moved = c.sort_unstable.ensures.permutation in
    λ k. (
      λ there. Contains-permutation _ _ k (IsPermutation-sym _ _ moved) (Contains-from_dedup _ _ k (rw is at there)),
      λ there. rw is (Contains-dedup_nat _ k (Contains-permutation _ _ k moved there)),
    )
