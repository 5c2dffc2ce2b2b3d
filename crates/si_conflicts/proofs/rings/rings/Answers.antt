use Rattle.std.proofs.Common.{◌<◌, ◌+◌, ◌∙◌, ℕ, arith, ap, sym, subst, get_or, Option, None}
use Rattle.std.specs.BTreeMap.{get}
use Rattle.std.specs.Ordering.{nat_cmp}
use Rattle.si_base.specs.Graph.{StateGraph}
use Rattle.si_base.specs.Codes.{code}
use Rattle.si_conflicts.specs.Loops.Links.{IsFirstOfCode}
use Rattle.si_conflicts.proofs.RingLemmas.{next_is, rings_more}
use Rattle.si_conflicts.proofs.rings.rings.Goals as goal

pub loop-k-preserved : goal.loop-k-preserved
loop-k-preserved c =
    let d = c.args.coded.now in
    let k = c.loop-k.k in
    let states = c.states-states.ensures ∙ ap (λ (g : StateGraph). g.states) c.graph.ensures.same in
    let within : k < d.graph.states = omega (arith, c.loop-k-test.true, states) in
    let later_is = c.link.ensures ∙ ap (λ xs. get_or xs k None) c.deref.ensures.value in
    let first_is = c.copied-first.ensures ∙ c.get.ensures.value
    ∙ ap (λ n. get nat_cmp c.in_ok-firsts.firsts n) c.code.ensures in
    let later = subst (λ (o : Option ℕ). IsFirstOfCode d (k + 1) (code d k) o) (sym later_is)
    (c.in_ok-equals.ensures.links k within) in
    let first = subst (λ (o : Option ℕ). IsFirstOfCode d 0 (code d k) o) (sym first_is)
    (c.in_ok-firsts.ensures (code d k)) in
    record {
      most = omega (arith, within);
      count = omega (arith, c.in_ok-push.ensures.len, c.loop-k.invariant.count);
      each = rw c.in_ok-push.ensures.items
          (rings_more d k c.loop-k.next.items c.next_in_ring.result c.loop-k.invariant.count c.loop-k.invariant.each
          (next_is d k c.link.result c.copied-first.result c.next_in_ring.result within later first
          c.next_in_ring.ensures.later c.next_in_ring.ensures.first));
    }

pub returns : goal.returns
returns c =
    let d = c.args.coded.now in
    let states = c.states-states.ensures ∙ ap (λ (g : StateGraph). g.states) c.graph.ensures.same in
    let most = c.loop-k.invariant.most in
    let count = c.loop-k.invariant.count in
    record {
      count = omega (arith, states, most, count, c.loop-k-test.false);
      each = λ s within. c.loop-k.invariant.each s (omega (arith, states, c.loop-k-test.false));
    }
