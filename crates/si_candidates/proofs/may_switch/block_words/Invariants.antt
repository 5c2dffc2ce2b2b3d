use Rattle.si_candidates.specs.Loops.ManySets.{ArePacked}
use Rattle.si_candidates.proofs.may_switch.block_words.Given as goal

abbrev pub invariant-loop-k : goal.invariant-loop-k
invariant-loop-k l = ArePacked l.states l.blocks l.first l.k l.words.items
