use Rattle.std.proofs.Common.{ℕ, sym, subst}
use Rattle.si_base.specs.Graph.{Step}
use Rattle.si_divisor.proofs.SwitchTurns.{spreads_all_as}
use Rattle.si_divisor.proofs.switching.reach_exit.Goals as goal

pub returns-in-Some : goal.returns-in-Some
returns-in-Some c =
    let g = c.args.graph.now in
    let u = c.args.u in
    let e = c.args.e in
    let step = c.in-Some.ensures.step in
    spreads_all_as _ _ _ _ _ _ (λ k t p. (p.1, subst (λ (w : ℕ). Step g u e w) (sym p.0) step))
    (λ k t r. (c.requires.deterministic u e t c.in-Some.w r.1 step, r.0)) c.reach.ensures
