use Rattle.std.proofs.Common.{ap, get_or}
use Rattle.si_base.specs.declared.graph.Edge.{Edge}
use Rattle.si_divisor.proofs.SwitchTurns.{in_sets, spreads_all_as}
use Rattle.si_divisor.proofs.switching.reach_before.Goals as goal

pub returns : goal.returns
returns c =
    let highs = c.args.highs.now in
    let is = ap (λ s. get_or highs s 0) (ap (λ (a : Edge). a.from) c.arc.view_is) in
    spreads_all_as _ _ _ _ _ _
    (λ k t p. (let both = (in_sets highs c.args.sets c.args.arc.now.from _ k is).0 p.1 in (p.0, both.0, both.1)))
    (λ k t r. (r.0, (in_sets highs c.args.sets c.args.arc.now.from _ k is).1 (r.1, r.2))) c.reach.ensures
