use Rattle.std.proofs.Common.{◌∙◌, ap, subst, sym}
use Rattle.si_base.specs.Codes.{CodedGraph, IsDeterministic}
use Rattle.si_base.specs.Graph.{StateGraph}
use Rattle.si_base.specs.Proper.{loss_place}
use Rattle.si_carried.specs.Lint.{IsUnused, IsDeadState, IsOneWay, IsChoice, IsDisabling}
use Rattle.si_told.specs.All.{AreAll, number_place, arc_place}
use Rattle.si_lint.proofs.WithdrawalLemmas.{all_choices, all_disablings}
use Rattle.si_lint.proofs.findings.findings.Goals as goal

pub withdrawals-requires : goal.withdrawals-requires
withdrawals-requires c = subst IsDeterministic (sym c.graph-4.ensures.same) c.graph-4.ensures.coded.deterministic

pub withdrawals-requires-2 : goal.withdrawals-requires-2
withdrawals-requires-2 c = subst IsDeterministic (sym c.graph-5.ensures.same) c.graph-5.ensures.coded.deterministic

pub returns : goal.returns
returns c =
    let graph = ap (λ (d : CodedGraph). d.graph) c.coded-coded.ensures.same in
    record {
      unused = subst (λ (g : StateGraph). AreAll number_place (IsUnused g) c.in_ok-unused.unused.items)
          (c.graph.ensures.same ∙ graph) c.in_ok-unused.ensures;
      dead = subst (λ (g : StateGraph). AreAll number_place (IsDeadState g) c.in_ok-dead.dead.items)
          (c.graph-2.ensures.same ∙ graph) c.in_ok-dead.ensures;
      one_way = subst (λ (g : StateGraph). AreAll arc_place (IsOneWay g) c.in_ok-one_way.one_way.items)
          (c.graph-3.ensures.same ∙ graph) c.in_ok-one_way.ensures;
      choices = subst (λ (g : StateGraph). AreAll loss_place (IsChoice g) c.in_ok-choices.choices.items) (c.graph-4.ensures.same ∙ graph)
          (all_choices _ _ c.in_ok-choices.ensures);
      disablings = subst (λ (g : StateGraph). AreAll loss_place (IsDisabling g) c.in_ok-disablings.disablings.items)
          (c.graph-5.ensures.same ∙ graph) (all_disablings _ _ c.in_ok-disablings.ensures);
      same_codes = c.in_ok-same_codes.ensures;
      merged = c.in_ok-merged.ensures;
      unresolvable = rw c.coded-coded.ensures.same at c.in_ok-unresolvable.ensures;
    }
