use Rattle.si_graph.proofs.ArcStoreLemmas.{first_at_start, none_from_start}
use Rattle.si_graph.proofs.arc_store.ArcStore.head_out.Goals as goal

pub returns-then-low-high : goal.returns-then-low-high
returns-then-low-high c =
    rw (← c.s.view_is) (first_at_start _ _ _ _ c.start-low.ensures c.start-high.ensures c.if-low-high.true)

pub returns-else-low-high : goal.returns-else-low-high
returns-else-low-high c = rw (← c.s.view_is) (λ j from within.
    none_from_start _ _ _ _ c.start-low.ensures c.start-high.ensures c.if-low-high.false j within)
