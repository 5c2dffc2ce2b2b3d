use Rattle.std.proofs.Common.{◌≡◌, ℕ, bit_xor, ap, ltb, leb, rules}
use Rattle.std.proofs.lemmas.List.Sorted.{IsPartitionPoint-from_clause, IsNonDecreasingBy-drop}
use Rattle.si_base.specs.Bits.{flip}
use Rattle.si_cube.specs.Order.{values_from}
use Rattle.si_cube.proofs.OrderLemmas.{low_cut, high_cut, last_between}
use Rattle.si_cube.proofs.order.differing_last.Goals as goal

pub returns : goal.returns
returns c =
    let low = c.partition_point-low.result in
    let sought : ℕ = bit_xor c.from-here.result 1 in
    let is : sought ≡ flip (values_from c.args.s c.args.code) 0 = ap (λ (n : ℕ). bit_xor n 1) c.from-here.ensures in
    let ordered = c.requires.in_order in
    let cut_low =
    IsPartitionPoint-from_clause (λ k. ltb
    (values_from c.args.s k) sought) _ _ c.partition_point-low.ensures.partitioned
    (low_cut _ c.args.s sought ordered) (λ a r f called. search rules) in
    let cut_high =
    rw c.split_at.ensures.back at (IsPartitionPoint-from_clause
    (λ k. leb (values_from c.args.s k) sought) _ _ c.partition_point-count.ensures.partitioned
    (rw c.split_at.ensures.back (high_cut _ c.args.s sought (IsNonDecreasingBy-drop (λ k. k) low _ ordered)))
    (λ a r f called. search rules)) in
    rw (c.split_at-2.ensures.front, c.split_at.ensures.back)
    (last_between _ c.args.code c.args.s sought low c.partition_point-count.result is
    c.partition_point-low.ensures.bound
    (rw c.split_at.ensures.back at c.partition_point-count.ensures.bound) cut_low cut_high)
