use Rattle.std.specs.Cmp.{nat_eq_equiv}
use Rattle.std.proofs.lemmas.Bool.{eqb-true}
use Rattle.std.proofs.lemmas.List.Filters.{dedup_is}
use Rattle.std.proofs.lemmas.List.Kept.{Contains-dedup, Contains-from_dedup}
use Rattle.std.proofs.lemmas.List.Sorted.{Contains-permutation, IsPermutation-sym}
use Rattle.std.proofs.lemmas.Map.Keys.{IsStrictlyIncreasing-dedup, sorted_from_strictly_increasing}
use Rattle.si_regions.proofs.state_list.StateList.of.Goals as goal

pub invariant_of-result : goal.invariant_of-result
invariant_of-result c =
    let is = dedup_is _ _ _ c.dedup.ensures.filtered in
    rw is (sorted_from_strictly_increasing _ (IsStrictlyIncreasing-dedup _ c.sort_unstable.ensures.sorted))

pub returns-clause-states : goal.returns-clause-states
returns-clause-states c =
    let is = dedup_is _ _ _ c.dedup.ensures.filtered in
    let moved = c.sort_unstable.ensures.permutation in
    λ t. (
      λ there. Contains-permutation _ _ t (IsPermutation-sym _ _ moved) (Contains-from_dedup _ _ t (rw is at there)),
      λ there. rw is (Contains-dedup nat_eq_equiv eqb-true _ t (Contains-permutation _ _ t moved there)),
    )

pub returns-clause-in_order : goal.returns-clause-in_order
returns-clause-in_order c = invariant_of-result c
