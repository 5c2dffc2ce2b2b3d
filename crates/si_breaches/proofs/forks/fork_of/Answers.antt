use Rattle.std.proofs.Common.{refl}
use Rattle.si_checks.proofs.ForkOrder.{later_event}
use Rattle.si_breaches.proofs.ForkLemmas.{first_by, none_by}
use Rattle.si_breaches.proofs.forks.fork_of.Goals as goal

pub returns-in_err-ends : goal.returns-in_err-ends
returns-in_err-ends c = rw c.from_residual.ensures (none_by c.args.graph.now c.args.s c.args.a.now c.args.c.now
    c.in_err-ends.ensures)

pub returns : goal.returns
returns c =
    let a = c.args.a.now in
    let e = c.args.c.now in
    let order = later_event e a c.if-le.ensures in
    (((first_by c.args.graph.now c.args.s a e c.in_ok-ends.ends order c.in_ok-ends.ensures, refl), refl), refl)
