use Rattle.std.proofs.Common.{refl}
use Rattle.si_divisor.proofs.SwitchTurns.{inside_more}
use Rattle.si_divisor.proofs.switching.those_inside.Goals as goal

pub loop-s-preserved : goal.loop-s-preserved
loop-s-preserved c =
    let s = c.loop-s.s in
    inside_more c.args.given c.args.words.now c.args.within.now s c.loop-s.kept _ _ (c.type_inv.words s).fits
    (c.type_inv.within s).fits refl refl c.loop-s.invariant
