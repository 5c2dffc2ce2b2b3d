use Rattle.si_words.proofs.WritingLemmas.{word_more}
use Rattle.si_words.proofs.writing.add_words.Goals as goal

pub loop-word-preserved : goal.loop-word-preserved
loop-word-preserved c = word_more _ _ _ _ _ _ c.loop-word-test.true c.loop-word.invariant c.in_ok-add_word.ensures
