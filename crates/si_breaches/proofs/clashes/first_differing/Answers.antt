use Rattle.si_breaches.proofs.ClashLemmas.{differing_as}
use Rattle.si_breaches.proofs.clashes.first_differing.Goals as goal

pub returns : goal.returns
returns c = λ walk ways.
    differing_as c.args.graph.now walk c.args.a c.args.x.now _ (c.first_arc.ensures.first walk ways)
