use Rattle.std.proofs.Common.{◌≡◌, ◌<◌, ◌∙◌, ℕ, Option, ap, arith, unwrap_or}
use Rattle.std.specs.BTreeMap.{get}
use Rattle.std.specs.Ordering.{nat_cmp}
use Rattle.si_base.specs.Codes.{code}
use Rattle.si_base.specs.Graph.{StateGraph}
use Rattle.si_pictures.proofs.InConflictMarks.{one_more, chosen_all, chosen_is}
use Rattle.si_pictures.proofs.conflict_states.representatives.Goals as goal

pub loop-k-preserved : goal.loop-k-preserved
loop-k-preserved c =
    let d = c.args.graph.now in
    let k = c.loop-k.k in
    let states = c.states-k-end.ensures ∙ ap (λ (g : StateGraph). g.states) c.graph.ensures.same in
    let within : k < d.graph.states = omega (arith, c.loop-k-test.true, states) in
    let by_code : ℕ → Option ℕ = λ n. get nat_cmp c.in_ok-lasts.lasts n in
    let found : c.copied-last.result ≡ by_code (code d k) =
    c.copied-last.ensures ∙ c.get.ensures.value ∙ ap by_code c.code.ensures in
    record {
      most = omega (arith, within);
      count = omega (arith, c.in_ok-push.ensures.len, c.loop-k.invariant.count);
      each = rw c.in_ok-push.ensures.items (one_more c.loop-k.chosen.items c.unwrap_or.result 0
          (λ s. unwrap_or (by_code (code d s)) 0) k c.loop-k.invariant.count c.loop-k.invariant.each
          (chosen_is d by_code k c.copied-last.result c.unwrap_or.result c.in_ok-lasts.ensures within found
          c.unwrap_or.ensures));
    }

pub returns : goal.returns
returns c =
    let d = c.args.graph.now in
    let states = c.states-k-end.ensures ∙ ap (λ (g : StateGraph). g.states) c.graph.ensures.same in
    let by_code : ℕ → Option ℕ = λ n. get nat_cmp c.in_ok-lasts.lasts n in
    let most = c.loop-k.invariant.most in
    let count = c.loop-k.invariant.count in
    chosen_all d by_code c.loop-k.chosen.items c.in_ok-lasts.ensures
    (omega (arith, states, most, count, c.loop-k-test.false))
    (λ s within. c.loop-k.invariant.each s (omega (arith, within, states, c.loop-k-test.false)))
