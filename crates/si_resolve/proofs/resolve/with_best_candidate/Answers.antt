use Rattle.std.proofs.Common.{refl}
use Rattle.si_resolve.proofs.ResolveLemmas.{stuck_at}
use Rattle.si_resolve.proofs.resolve.with_best_candidate.Goals as goal

pub returns-in_default-found-clause-unresolved : goal.returns-in_default-found-clause-unresolved
returns-in_default-found-clause-unresolved c =
    let none = rw (c.in_default-found.is, c.current.ensures.same) at c.in-Ok.ensures in
    let stuck = stuck_at c.args.lineage.current.coded c.args.fault c.in-Conflict.p c.in-Conflict.q c.in-Conflict.is
    c.requires none in
    (refl, stuck)

pub insert-requires-clause-new : goal.insert-requires-clause-new
insert-requires-clause-new c =
    let found = rw (c.in-Some.is, c.current.ensures.same) at c.in-Ok.ensures in found.3.free
