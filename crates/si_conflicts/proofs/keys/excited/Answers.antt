use Rattle.std.proofs.Common.{◌∙◌, arith, sym, subst}
use Rattle.std.proofs.lemmas.Bool.{true≢false}
use Rattle.si_base.specs.Graph.{StateGraph, IsNonInput}
use Rattle.si_checks.proofs.ForkOrder.{out_signal}
use Rattle.si_conflicts.proofs.KeyLemmas.{IsDrivenArc, excited_more, excited_pass, excited_all}
use Rattle.si_conflicts.proofs.keys.excited.Goals as goal
use Rattle.si_conflicts.proofs.keys.excited.Goals.{then-is_driven, else-is_driven}

pub is_driven-requires : goal.is_driven-requires
is_driven-requires c = out_signal c.graph-graph.result.now c.args.s c.arcs_out-arcs.result.now c.arcs_out-arcs.ensures
    c.loop-arc.arc-index c.arc-item.result c.loop-arc-test.true c.arc-item.is

pub set-excited-requires : goal.set-excited-requires
set-excited-requires c =
    let below = out_signal c.graph-graph.result.now c.args.s c.arcs_out-arcs.result.now c.arcs_out-arcs.ensures
    c.loop-arc.arc-index c.arc-item.result c.loop-arc-test.true c.arc-item.is in
    omega (arith, below, c.arcs_out-arcs.ensures.graph.few_signals)

pub loop-arc-preserved : goal.loop-arc-preserved
loop-arc-preserved c =
    let g = c.args.coded.now.graph in
    let arcs = c.arcs_out-arcs.result.now in
    let k = c.loop-arc.arc-index in
    let a = c.arc-item.result in
    let Driven : StateGraph → Type 0 = λ h. IsNonInput h.signals a.event.sig in
    let same = c.graph-graph.ensures.same in
    elim c.if-is_driven.branch [
      | then-is_driven w ↦ rw w.excited-is
          (excited_more (IsDrivenArc g) arcs k a c.loop-arc.excited c.loop-arc-test.true c.arc-item.is
          c.loop-arc.invariant
          w.set-excited.result (subst Driven same (c.is_driven.ensures.0 w.if-is_driven.true)) w.set-excited.ensures)
      | else-is_driven w ↦ rw w.excited-is
          (excited_pass (IsDrivenArc g) arcs k a c.loop-arc.excited c.loop-arc-test.true c.arc-item.is
          c.loop-arc.invariant
          (λ driven. true≢false (sym (c.is_driven.ensures.1 (subst Driven (sym same) driven)) ∙ w.if-is_driven.false)))
    ]

pub returns : goal.returns
returns c =
    let out = rw c.graph-graph.ensures.same at c.arcs_out-arcs.ensures in
    excited_all c.args.coded.now.graph c.args.s c.arcs_out-arcs.result.now c.loop-arc.arc-index c.loop-arc.excited out
    c.loop-arc-test.false c.loop-arc.invariant
