use Rattle.std.proofs.Common.{◌∙◌, ap, subst}
use Rattle.si_base.specs.Graph.{StateGraph}
use Rattle.si_base.specs.Codes.{CodedGraph}
use Rattle.si_conflicts.specs.Conflicts.{HasConflicts}
use Rattle.si_resolve.proofs.BlockListLemmas.{none_from_zero, none_without_room}
use Rattle.si_resolve.proofs.best.best.Goals.{then-conflicts-eq0-via-then-conflicts-eq0}
use Rattle.si_resolve.proofs.best.best.Goals.{then-conflicts-eq0-via-else-conflicts-eq0+then-signals-ge-MAX_SIGNALS}
use Rattle.si_resolve.proofs.best.best.Goals as goal

pub returns-then-conflicts-eq0 : goal.returns-then-conflicts-eq0
returns-then-conflicts-eq0 c = record {
  best = elim c.then-conflicts-eq0.branch [
    | then-conflicts-eq0-via-then-conflicts-eq0 w ↦ none_from_zero c.args.graph.now c.in_ok-conflicts.conflicts
        (subst (λ d. HasConflicts d c.in_ok-conflicts.conflicts) c.coded.ensures.same c.in_ok-conflicts.ensures)
        w.if-conflicts-eq0.true
    | then-conflicts-eq0-via-else-conflicts-eq0+then-signals-ge-MAX_SIGNALS w ↦
        none_without_room c.args.graph.now w.signals.result.now
        (w.signals.ensures ∙ (ap (λ (g : StateGraph). g.signals) w.graph.ensures.same
        ∙ ap (λ (d : CodedGraph). d.graph.signals) w.coded-else-conflicts-eq0.ensures.same))
        w.if-signals-ge-MAX_SIGNALS.true
  ];
}
