use Rattle.si_suggest.specs.Loops.Offers.{IsNamedLineage}
use Rattle.si_suggest.proofs.offers.lineage_of.Given as goal

abbrev pub invariant-loop-classes : goal.invariant-loop-classes
invariant-loop-classes l = IsNamedLineage l.given l.lineage
