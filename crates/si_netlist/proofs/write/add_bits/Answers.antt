use Rattle.std.proofs.Common.{◌∙◌}
use Rattle.si_netlist.proofs.WritingLemmas.{bits_more}
use Rattle.si_netlist.proofs.write.add_bits.Goals as goal

pub loop-i-preserved : goal.loop-i-preserved
loop-i-preserved c =
    let more = bits_more c.args.signals.now c.args.code c.loop-i.i c.loop-i.text c.loop-i-test.true in
    rw (c.in_ok-add.ensures.added, c.digit.ensures, c.get.ensures) (more ∙ c.loop-i.invariant)
