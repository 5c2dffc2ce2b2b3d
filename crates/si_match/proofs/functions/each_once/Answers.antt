use Rattle.std.proofs.lemmas.List.Filters.{dedup_is}
use Rattle.std.proofs.lemmas.List.Kept.{Contains-dedup_nat, Contains-from_dedup}
use Rattle.std.proofs.lemmas.List.Sorted.{Contains-permutation, IsPermutation-sym}
use Rattle.si_match.proofs.functions.each_once.Goals as goal

pub returns : goal.returns
returns c =
    let is = dedup_is _ _ _ c.dedup.ensures.filtered in
    let moved = c.sort_unstable.ensures.permutation in
    λ t. (
      λ there. Contains-permutation _ _ t (IsPermutation-sym _ _ moved) (Contains-from_dedup _ _ t (rw is at there)),
      λ there. rw is (Contains-dedup_nat _ t (Contains-permutation _ _ t moved there)),
    )
