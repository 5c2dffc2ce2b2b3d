use Rattle.std.proofs.Common.{◌<◌, ◌==◌, ◌∙◌, not, arith, ap, sym, refl}
use Rattle.std.proofs.lemmas.List.{get_or_default}
use Rattle.std.proofs.lemmas.List.Elements.{All-push}
use Rattle.si_base.specs.Graph.{StateGraph}
use Rattle.si_conflicts.specs.Loops.Keys.{IsKey}
use Rattle.si_conflicts.proofs.RingLemmas.{states_more, states_same}
use Rattle.si_conflicts.proofs.members.in_state_order.Goals as goal
use Rattle.si_conflicts.proofs.members.in_state_order.Goals.{then-ne+in_ok-push, else-ne}

pub loop-k-preserved : goal.loop-k-preserved
loop-k-preserved c =
    let d = c.args.coded.now in
    let k = c.loop-k.k in
    let old = c.loop-k.members.items in
    let states = c.states-states.ensures ∙ ap (λ (g : StateGraph). g.states) c.graph.ensures.same in
    let within : k < d.graph.states = omega (arith, c.loop-k-test.true, states) in
    let read = c.index-next-k.is
    ∙ get_or_default c.args.next.now k c.index-next-k.result 0 (omega (arith, within, c.requires)) in
    let test = ap (λ n. not (n == k)) (sym read) ∙ sym c.ne.ensures in
    elim c.if-ne.branch [
      | then-ne+in_ok-push w ↦ rw (w.members-is, w.in_ok-push.ensures.items) (record {
        most = omega (arith, within);
        states = states_more c.args.next.now k old _ c.loop-k.invariant.states refl (test ∙ w.if-ne.true);
        within = All-push (λ m. m.state < d.graph.states) old _ c.loop-k.invariant.within within;
        keys = All-push (λ m. IsKey d m.state m.key) old _ c.loop-k.invariant.keys w.state_key.ensures;
      })
      | else-ne w ↦ rw w.members-is (record {
        most = omega (arith, within);
        states = states_same c.args.next.now k old c.loop-k.invariant.states (test ∙ w.if-ne.false);
        within = c.loop-k.invariant.within;
        keys = c.loop-k.invariant.keys;
      })
    ]
