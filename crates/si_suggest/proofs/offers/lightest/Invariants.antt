use Rattle.std.proofs.Common.{IfSome}
use Rattle.si_suggest.specs.Loops.Offers.{IsNoHeavierThan}
use Rattle.si_suggest.specs.Suggested.{IsOffered}
use Rattle.si_suggest.proofs.offers.lightest.Given as goal

abbrev pub invariant-loop-chain : goal.invariant-loop-chain
invariant-loop-chain l = record {
  offered : IfSome l.best (IsOffered l.fn.given l.fn.style l.fn.model l.fn.states);
  light : IsNoHeavierThan l.fn.first l.best;
}
