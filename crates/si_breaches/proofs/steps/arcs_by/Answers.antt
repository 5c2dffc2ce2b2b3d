use Rattle.std.proofs.Common.{rules}
use Rattle.std.proofs.lemmas.List.Sorted.{IsPartitionPoint-from_clause}
use Rattle.si_graph.proofs.OrderLemmas.{event_cut, is_earlier}
use Rattle.si_breaches.proofs.StepLemmas.{arcs_are, later_cut, is_not_later}
use Rattle.si_breaches.proofs.steps.arcs_by.Goals as goal

pub returns : goal.returns
returns c =
    let g = c.args.graph.now in
    let e = c.args.e in
    let arcs = c.arcs_out-arcs.result.now in
    let out = c.arcs_out-arcs.ensures in
    let low = c.partition_point-low.result in
    let cut_low = IsPartitionPoint-from_clause (is_earlier e) _ _ c.partition_point-low.ensures.partitioned
    (event_cut g c.args.s e arcs out) (λ a r f called. search rules) in
    let cut_high = rw c.split_at.ensures.back at (IsPartitionPoint-from_clause (is_not_later g c.args.s arcs out e) _ _
    c.partition_point-count.ensures.partitioned (rw c.split_at.ensures.back (later_cut g c.args.s arcs out e low))
    (λ a r f called. search rules)) in
    rw (c.split_at-2.ensures.front, c.split_at.ensures.back)
    (arcs_are g c.args.s arcs out e low c.partition_point-count.result c.partition_point-low.ensures.bound
    (rw c.split_at.ensures.back at c.partition_point-count.ensures.bound) cut_low cut_high)
