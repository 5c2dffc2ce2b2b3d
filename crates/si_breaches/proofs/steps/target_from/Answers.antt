use Rattle.std.proofs.Common.{◌∙◌, sym, ap, arith, rules}
use Rattle.std.proofs.lemmas.Bool.{true≢false}
use Rattle.std.proofs.lemmas.List.{get_or_default}
use Rattle.std.proofs.lemmas.List.Sorted.{IsPartitionPoint-from_clause}
use Rattle.si_base.specs.declared.ids.Event.{Event}
use Rattle.si_base.specs.declared.graph.Edge.{Edge}
use Rattle.si_base.specs.Graph.{same_event}
use Rattle.si_base.proofs.GraphSteps.{same_event-refl, same_event-true}
use Rattle.si_breaches.specs.Loops.Steps.{is_before_those}
use Rattle.si_breaches.proofs.StepLemmas.{low_cut, target_first, target_none}
use Rattle.si_graph.specs.Loops.Arcs.{no_edge}
use Rattle.si_breaches.proofs.steps.target_from.Goals.{else-place-arcs-via-then-place-arcs+else-eq}
use Rattle.si_breaches.proofs.steps.target_from.Goals.{else-place-arcs-via-else-place-arcs}
use Rattle.si_breaches.proofs.steps.target_from.Goals as goal

pub returns-then-eq : goal.returns-then-eq
returns-then-eq c =
    let g = c.args.graph.now in
    let s = c.args.s in
    let e = c.args.e.now in
    let low = c.args.low in
    let arcs = c.arcs_out-arcs.result.now in
    let out = c.arcs_out-arcs.ensures in
    let k = c.partition_point-place.result in
    let cut = IsPartitionPoint-from_clause (is_before_those e low) _ _ c.partition_point-place.ensures.partitioned
    (low_cut g s arcs out e low) (λ a r f called. search rules) in
    let event = same_event-true _ _ (sym c.eq.ensures ∙ c.if-eq.true) in
    target_first g s arcs out e low k cut _ c.if-place-arcs.true (ap (λ (a : Edge). a.event)
    (get_or_default arcs k _ _ c.if-place-arcs.true) ∙ event)

pub returns-else-place-arcs : goal.returns-else-place-arcs
returns-else-place-arcs c =
    let g = c.args.graph.now in
    let s = c.args.s in
    let e = c.args.e.now in
    let low = c.args.low in
    let arcs = c.arcs_out-arcs.result.now in
    let out = c.arcs_out-arcs.ensures in
    let k = c.partition_point-place.result in
    let cut = IsPartitionPoint-from_clause (is_before_those e low) _ _ c.partition_point-place.ensures.partitioned
    (low_cut g s arcs out e low) (λ a r f called. search rules) in
    elim c.else-place-arcs.branch [
      | else-place-arcs-via-then-place-arcs+else-eq w ↦
          target_none g s arcs out e low k cut w.index-arcs-place.result
          (λ _ same. true≢false (sym (same_event-refl e) ∙ sym (ap (λ (f : Event). same_event f e) same)
          ∙ sym w.eq.ensures ∙ w.if-eq.false))
      | else-place-arcs-via-else-place-arcs w ↦
          target_none g s arcs out e low k cut no_edge (λ within _. absurd (omega arith))
    ]
