use Rattle.si_cover.proofs.SetLemmas.{search_tells}
use Rattle.si_cover.proofs.mono.has.Goals as goal

pub returns : goal.returns
returns c =
    search_tells c.args.set.now c.as_slice.result.now c.args.s c.binary_search.result c.is_ok.result
    c.as_slice.ensures.states c.as_slice.ensures.in_order c.binary_search.ensures.position c.is_ok.ensures.value
