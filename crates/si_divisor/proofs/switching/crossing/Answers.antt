use Rattle.std.proofs.Common.{ap, get_or}
use Rattle.si_base.specs.declared.graph.Edge.{Edge}
use Rattle.si_divisor.proofs.SwitchTurns.{crossing_bits}
use Rattle.si_divisor.proofs.switching.crossing.Goals as goal

pub returns : goal.returns
returns c k =
    let highs = c.args.highs.now in
    crossing_bits highs c.args.given c.args.arc.now.from c.args.arc.now.to _ _ c.ranges.given.fits
    (c.type_inv.highs c.arc.inside.0.0.0).fits (ap (λ s. get_or highs s 0) (ap (λ (a : Edge). a.to) c.arc.view_is))
    (ap (λ s. get_or highs s 0) (ap (λ (a : Edge). a.from) c.arc.view_is)) k
