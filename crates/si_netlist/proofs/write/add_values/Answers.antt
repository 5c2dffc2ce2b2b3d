use Rattle.si_netlist.proofs.WritingLemmas.{start_word}
use Rattle.si_words.proofs.WritingLemmas.{left_as}
use Rattle.std.proofs.Common.{sym}
use Rattle.si_netlist.proofs.write.add_values.Goals as goal

pub returns : goal.returns
returns c = left_as _ _ _ _ (rw c.in_ok-add.ensures.added
    (start_word c.args.text.now c.args.signals.now c.args.values (sym c.if-is_empty.ensures))) c.add_bits.ensures
