use Rattle.std.proofs.Common.{sym}
use Rattle.std.proofs.lemmas.Bool.{true≢false}
use Rattle.si_graph.proofs.ArcStoreLemmas.{start_here}
use Rattle.si_graph.proofs.arc_store.start_from.Goals as goal

pub returns : goal.returns
returns c = start_here _ _ _ c.requires.ordered c.loop-place.invariant
    (λ both. true≢false (sym (c.loop-place-test.ensures.1 both)))
