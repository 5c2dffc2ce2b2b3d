use Rattle.std.proofs.Common.{◌∙◌, ap, arith, get_or, sym, subst}
use Rattle.std.proofs.lemmas.Bool.{true≢false}
use Rattle.si_base.specs.declared.graph.Edge.{Edge}
use Rattle.si_base.specs.Graph.{IsNonInput}
use Rattle.si_closures.proofs.WordBits.{no_bit_of_none}
use Rattle.si_closures.proofs.WordSearchLemmas.{in_column}
use Rattle.si_divisor.proofs.SwitchTurns.{in_sets, done_all, out_within, beside_grows, beside_done}
use Rattle.si_divisor.proofs.switching.reach_beside.Goals as goal
use Rattle.si_divisor.proofs.switching.reach_beside.Goals.{then-high-eq0-via-then-high-eq0}
use Rattle.si_divisor.proofs.switching.reach_beside.Goals.{then-high-eq0-via-else-high-eq0+then-not-is_driven}

pub returns-then-high-eq0-clause-done : goal.returns-then-high-eq0-clause-done
returns-then-high-eq0-clause-done c k t beside has listed x =
    let highs = c.args.highs.now in
    let is = ap (λ s. get_or highs s 0) (ap (λ (a : Edge). a.from) c.arc.view_is) in
    absurd (elim c.then-high-eq0.branch [
      | then-high-eq0-via-then-high-eq0 w ↦ no_bit_of_none _ k w.if-high-eq0.true
          ((in_sets highs c.args.sets c.args.arc.now.from _ k is).1 (has, x.begins_high))
      | then-high-eq0-via-else-high-eq0+then-not-is_driven w ↦
          true≢false (sym (w.is_driven.ensures.1
          (subst (λ (a : Edge). IsNonInput c.args.graph.now.signals a.event.sig) (sym c.arc.view_is) x.non_input))
          ∙ w.if-not-is_driven.true)
    ])

pub reach_past-requires-clause-beside : goal.reach_past-requires-clause-beside
reach_past-requires-clause-beside c =
    (out_within c.args.graph.now c.args.arc.now.from c.arcs_out-beside-items.result.now c.loop-beside.beside-index
    c.beside-item.result c.arcs_out-beside-items.ensures c.loop-beside-test.true c.beside-item.is).2

pub loop-beside-preserved : goal.loop-beside-preserved
loop-beside-preserved c =
    let g = c.args.graph.now in
    let highs = c.args.highs.now in
    let arc = c.args.arc.now in
    let arcs = c.arcs_out-beside-items.result.now in
    let n = c.loop-beside.beside-index in
    let a = c.beside-item.result in
    let is = ap (λ s. get_or highs s 0) (ap (λ (a : Edge). a.from) c.arc.view_is) in
    let driven = subst (λ (a : Edge). IsNonInput g.signals a.event.sig) c.arc.view_is
    (c.is_driven.ensures.0 c.if-not-is_driven.false) in
    record {
      grows = beside_grows g highs c.args.work.now c.loop-beside.work arcs n a c.requires.turn.belong
          c.loop-beside.invariant.grows arc c.args.sets _ c.arcs_out-beside-items.ensures c.loop-beside-test.true
          c.beside-item.is c.requires.arc driven (λ k. (in_sets highs c.args.sets arc.from _ k is).0)
          c.requires.turn.have c.reach_past.new.work c.reach_past.ensures;
      done = beside_done g highs c.args.work.now c.loop-beside.work arcs n a c.requires.turn.belong
          c.loop-beside.invariant.grows arc c.args.sets _ c.arcs_out-beside-items.ensures c.loop-beside-test.true
          c.beside-item.is c.requires.arc driven (λ k. (in_sets highs c.args.sets arc.from _ k is).0)
          c.requires.turn.have c.reach_past.new.work c.reach_past.ensures c.loop-beside.invariant.done;
    }

pub returns-clause-done : goal.returns-clause-done
returns-clause-done c k t beside has listed x =
    let highs = c.args.highs.now in
    let is = ap (λ s. get_or highs s 0) (ap (λ (a : Edge). a.from) c.arc.view_is) in
    done_all _ c.arcs_out-beside-items.result.now c.loop-beside.beside-index c.loop-beside.work
    (omega (arith, c.loop-beside-test.false)) c.loop-beside.invariant.done beside
    ((c.arcs_out-beside-items.ensures.exactly beside).1 (listed, x.same)) k t (
      (in_sets highs c.args.sets c.args.arc.now.from _ k is).1 (has, x.begins_high),
      x.apart,
      (in_column k c.args.work.now.words beside.to).0 x.there,
      x.step,
    )
