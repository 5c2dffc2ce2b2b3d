use Rattle.si_closures.proofs.WordLemmas.{AreTold}
use Rattle.si_closures.proofs.words.set_at.Given as goal

abbrev pub invariant-loop-s : goal.invariant-loop-s
invariant-loop-s l = AreTold l.words l.k l.s l.set
