use Rattle.si_suggest.specs.Suggested.{IsOffered}
use Rattle.si_suggest.proofs.OfferLemmas.{no_heavier_on, one_of, same_weight}
use Rattle.si_suggest.proofs.offers.lightest.Goals as goal

pub loop-chain-init : goal.loop-chain-init
loop-chain-init c = record { offered = c.requires.first; light = same_weight c.args.first }

pub loop-chain-preserved : goal.loop-chain-preserved
loop-chain-preserved c =
    let best = c.loop-chain.best in
    let next = c.in_ok-best.best in
    record {
      offered = one_of (IsOffered c.args.given.now c.args.style c.args.model.now c.args.states.now) best
          c.in_ok-offer.offer next c.in_ok-best.ensures.of_them c.loop-chain.invariant.offered c.in_ok-offer.ensures;
      light = no_heavier_on c.args.first best next c.loop-chain.invariant.light c.in_ok-best.ensures.light;
    }
