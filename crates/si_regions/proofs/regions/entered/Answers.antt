use Rattle.std.proofs.Common.{◌∙◌, ap, subst, sym}
use Rattle.si_base.specs.Graph.{StateGraph, Step}
use Rattle.si_base.proofs.GraphSteps.{enables-step}
use Rattle.si_regions.proofs.RegionLemmas.{targets_more, targets_pass, targets_all}
use Rattle.si_regions.proofs.regions.entered.Goals as goal
use Rattle.si_regions.proofs.regions.entered.Goals.{in-Some+in_ok-push, in_default}

pub loop-s-preserved : goal.loop-s-preserved
loop-s-preserved c =
    let g = c.args.coded.now.graph in
    let from = c.args.from.now in
    let e = c.args.e.now in
    let k = c.loop-s.s-index in
    let same = c.graph-g.ensures.same in
    let old = c.loop-s.targets.items in
    elim c.match-succ.branch [
      | in-Some+in_ok-push w ↦ (
          let step : Step g c.s-item.result e w.in-Some.t =
          subst (λ (h : StateGraph). Step h c.s-item.result e w.in-Some.t) same w.in-Some.ensures.step in
          rw (ap (λ v. v.items) w.targets-is ∙ w.in_ok-push.ensures.items)
          (targets_more g from e k c.s-item.result old c.loop-s-test.true c.s-item.is c.loop-s.invariant w.in-Some.t
          c.graph-g.ensures.coded.deterministic step))
      | in_default w ↦
          rw (ap (λ v. v.items) w.targets-is)
          (targets_pass g from e k c.s-item.result old c.loop-s-test.true c.s-item.is c.loop-s.invariant
          (λ u step. w.in_default.ensures (enables-step c.graph-g.result.now c.s-item.result e u
          (subst (λ (h : StateGraph). Step h c.s-item.result e u) (sym same) step))))
    ]

pub returns : goal.returns
returns c = targets_all c.args.coded.now.graph c.args.from.now c.args.e.now c.loop-s.s-index c.loop-s.targets.items
    c.of.result c.loop-s-test.false c.loop-s.invariant c.of.ensures.states c.of.ensures.in_order
