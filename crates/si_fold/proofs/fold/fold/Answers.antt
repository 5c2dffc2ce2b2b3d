use Rattle.std.proofs.Common.{sym, subst}
use Rattle.si_base.specs.Codes.{CodedGraph, IsDeterministic}
use Rattle.si_base.specs.Proper.{IsProper}
use Rattle.si_fold.proofs.FoldLemmas.{folded_is_proper}
use Rattle.si_fold.proofs.fold.fold.Goals as goal

pub refined-requires-clause-deterministic : goal.refined-requires-clause-deterministic
refined-requires-clause-deterministic c =
    subst IsDeterministic (sym c.graph.ensures.same) c.graph.ensures.coded.deterministic

pub known-requires : goal.known-requires
known-requires c =
    let given = c.coded-coded.result.now in
    let proper = subst (λ (x : CodedGraph). IsProper x.graph) (sym c.coded-coded.ensures.same)
    c.coded-coded.ensures.proper in
    folded_is_proper given c.in_ok-folded.folded c.deref.result.now c.deref-2.result.now c.graph.ensures.coded
    c.in_ok-folded.ensures proper
