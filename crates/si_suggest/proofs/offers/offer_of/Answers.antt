use Rattle.si_suggest.proofs.OfferLemmas.{offered}
use Rattle.si_suggest.proofs.offers.offer_of.Goals as goal

pub returns-in-Ok : goal.returns-in-Ok
returns-in-Ok c =
    let named = rw c.in-Some.is at c.in_ok-lineage.ensures in
    let free = rw c.in-Some-2.is at c.in_ok-resolved.ensures in
    let made = c.in-Ok.ensures in
    offered c.args.given.now c.args.style c.args.model.now c.args.states.now c.in-Some.lineage c.in-Some-2.resolved
    c.in-Ok.circuit named.given_is free.0 free.1 made.same made.netlist made.written made.implements
