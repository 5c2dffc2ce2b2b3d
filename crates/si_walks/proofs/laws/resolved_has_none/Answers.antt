use Rattle.std.proofs.Common.{subst}
use Rattle.si_insert.specs.Lineage.{History, IsLineage}
use Rattle.si_walks.proofs.Joined.{never_resolved}
use Rattle.si_walks.proofs.laws.resolved_has_none.Goals as goal

pub returns : goal.returns
returns c pair joined =
    let P : History → Type 0 = λ l. IsLineage l.given l.trace l.current in
    let l = c.args.resolved.now in
    let lineage = subst P c.lineage-lineage.ensures.same c.trace-trace.ensures.made in
    never_resolved l.given l.trace l.current pair lineage joined c.lineage-lineage.ensures.resolved
