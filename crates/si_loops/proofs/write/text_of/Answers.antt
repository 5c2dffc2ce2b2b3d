use Rattle.std.proofs.Common.{refl}
use Rattle.si_loops.proofs.TextLemmas.{loops_by_calls}
use Rattle.si_loops.proofs.write.text_of.Goals as goal

pub returns : goal.returns
returns c = loops_by_calls c.args.signals.now c.args.arcs _ c.args.cut.now _ _ _ _ refl
    c.in_ok-text.ensures c.in_ok-add_number.ensures c.in_ok-add_number-2.ensures c.in_ok-add_cuts.ensures
