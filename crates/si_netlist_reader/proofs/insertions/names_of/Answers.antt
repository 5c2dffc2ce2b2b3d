use Rattle.std.proofs.Common.{[]}
use Rattle.si_words.proofs.FirstFaultLemmas.{takes}
use Rattle.si_netlist_reader.proofs.insertions.names_of.Goals as goal

pub loop-word-preserved : goal.loop-word-preserved
loop-word-preserved c =
    takes [] _ _ _ _ _ c.loop-word-test.true c.loop-word.invariant c.in_ok-push.ensures.added
