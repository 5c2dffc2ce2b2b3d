use Rattle.std.proofs.Common.{length}
use Rattle.si_words.specs.Loops.Reads.{words_now}
use Rattle.si_cell.proofs.WordLemmas.{Taking}
use Rattle.si_cell.proofs.words.take_before.Given as goal

abbrev pub invariant-loop-word : goal.invariant-loop-word
invariant-loop-word l = Taking l.mark (words_now l.before.items) l.words l.fn.words

abbrev pub decreases-loop-word : goal.decreases-loop-word
decreases-loop-word l = length l.words
