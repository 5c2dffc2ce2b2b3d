use Rattle.std.proofs.Common.{sym, eqb-true}
use Rattle.si_checks.proofs.ForkLemmas.{ends_meet}
use Rattle.si_checks.proofs.forks.ends_apart.Goals as goal

pub returns-then-eq : goal.returns-then-eq
returns-then-eq c =
    ends_meet c.args.graph.now c.args.x.to c.args.y.to c.args.y.event c.args.x.event c.in_ok-w.w c.in_ok-w2.w2
    c.requires c.in_ok-w.ensures c.in_ok-w2.ensures (eqb-true c.in_ok-w.w c.in_ok-w2.w2 (sym c.if-eq.ensures))
