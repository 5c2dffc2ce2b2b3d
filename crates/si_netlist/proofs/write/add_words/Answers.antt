use Rattle.si_netlist.proofs.WritingLemmas.{words_more}
use Rattle.si_netlist.proofs.write.add_words.Goals as goal

pub loop-k-preserved : goal.loop-k-preserved
loop-k-preserved c =
    words_more c.args.words.now c.loop-k.k c.get.result.now c.args.text.now c.loop-k.text c.add_word.new.text
    c.get.ensures c.loop-k.invariant c.in_ok-add_word.ensures
