use Rattle.std.proofs.Common.{arith}
use Rattle.si_graph.proofs.ArcStoreLemmas.{low_le_high, run_in, run_out, run_ordered}
use Rattle.si_graph.proofs.arc_store.ArcStore.arcs_out.Goals as goal

pub split_at-requires-2 : goal.split_at-requires-2
split_at-requires-2 c =
    omega (arith, low_le_high _ _ _ _ c.start-low.ensures c.start-high.ensures, c.split_at.ensures.front_len)

pub returns-clause-exactly : goal.returns-clause-exactly
returns-clause-exactly c =
    let low = rw (← c.self.view_is) at c.start-low.ensures in
    let high = rw (← c.self.view_is) at c.start-high.ensures in
    rw (c.split_at-2.ensures.back, c.split_at.ensures.front, c.as_slice.ensures.value, ← c.self.view_is, ← c.s.view_is)
    (λ a. (run_out _ _ _ _ low high a, λ both. run_in _ _ _ _ low high a both.0 both.1))

pub returns-clause-ordered : goal.returns-clause-ordered
returns-clause-ordered c =
    let low = rw (← c.self.view_is) at c.start-low.ensures in
    let high = rw (← c.self.view_is) at c.start-high.ensures in
    rw (c.split_at-2.ensures.back, c.split_at.ensures.front, c.as_slice.ensures.value)
    (run_ordered _ _ _ _ low high c.self.invariant.stored.ordered)
