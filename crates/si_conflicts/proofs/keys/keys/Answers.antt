use Rattle.std.proofs.Common.{◌∙◌, arith, ap}
use Rattle.si_base.specs.Graph.{StateGraph}
use Rattle.si_conflicts.proofs.KeyLemmas.{keys_more}
use Rattle.si_conflicts.proofs.keys.keys.Goals as goal

pub loop-k-preserved : goal.loop-k-preserved
loop-k-preserved c =
    let d = c.args.coded.now in
    let states = c.states-states.ensures ∙ ap (λ (g : StateGraph). g.states) c.graph.ensures.same in
    record {
      count = omega (arith, c.in_ok-push.ensures.len, c.loop-k.invariant.count);
      most = omega (arith, c.loop-k-test.true, states);
      each = rw c.in_ok-push.ensures.items
          (keys_more d c.loop-k.k c.loop-k.keys.items _ c.loop-k.invariant.count c.loop-k.invariant.each
          c.state_key.ensures);
    }
