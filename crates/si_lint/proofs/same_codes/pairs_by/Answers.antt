use Rattle.std.proofs.Common.{◌<◌, ◌∙◌, [], ap, sym, arith}
use Rattle.std.proofs.lemmas.Bool.{true≢false}
use Rattle.si_base.specs.Graph.{StateGraph}
use Rattle.si_base.specs.Proper.{pair_place}
use Rattle.si_carried.specs.Lint.{IsSameCode}
use Rattle.si_conflicts.specs.Loops.Chains.{IsNextInRing}
use Rattle.si_conflicts.specs.Conflicts.{pairs_of}
use Rattle.si_conflicts.specs.Loops.Keys.{key_at}
use Rattle.si_told.proofs.Alls.{below_none, below_more, below_all}
use Rattle.si_lint.proofs.SameCodeLemmas.{first_order, ring_within, pushed_pair, same_here, same_pass}
use Rattle.si_lint.proofs.same_codes.pairs_by.Goals as goal
use Rattle.si_lint.proofs.same_codes.pairs_by.Goals.{then-is_same+in_ok-push, else-is_same}

pub next_equal-q-requires : goal.next_equal-q-requires
next_equal-q-requires c =
    let states = c.states-states.ensures ∙ ap (λ (g : StateGraph). g.states) c.graph-graph.ensures.same in
    omega (arith, c.loop-k-test.true, states, c.requires.chains.rings.count)

pub is_same-requires-clause-p : goal.is_same-requires-clause-p
is_same-requires-clause-p c =
    let states = c.states-states.ensures ∙ ap (λ (g : StateGraph). g.states) c.graph-graph.ensures.same in
    omega (arith, c.loop-k-test.true, states, c.requires.keys.count)

pub is_same-requires-clause-q : goal.is_same-requires-clause-q
is_same-requires-clause-q c =
    let d = c.args.coded.now in
    let k = c.loop-k.k in
    let states = c.states-states.ensures ∙ ap (λ (g : StateGraph). g.states) c.graph-graph.ensures.same in
    let inside : k < d.graph.states = omega (arith, c.loop-k-test.true, states) in
    let ring : IsNextInRing d k c.next_equal-q.result =
    rw c.next_equal-q.ensures (c.requires.chains.rings.each k inside) in
    omega (arith, ring_within d k c.next_equal-q.result ring, c.requires.keys.count)

pub loop-k-init : goal.loop-k-init
loop-k-init c = rw c.new-found.ensures.items
    (below_none pair_place (IsSameCode c.args.coded.now) (λ pair. pair.0) (first_order c.args.coded.now) [])

pub loop-k-preserved : goal.loop-k-preserved
loop-k-preserved c =
    let d = c.args.coded.now in
    let k = c.loop-k.k in
    let q = c.next_equal-q.result in
    let old = c.loop-k.found.items in
    let states = c.states-states.ensures ∙ ap (λ (g : StateGraph). g.states) c.graph-graph.ensures.same in
    let inside : k < d.graph.states = omega (arith, c.loop-k-test.true, states) in
    let ring : IsNextInRing d k q = rw c.next_equal-q.ensures (c.requires.chains.rings.each k inside) in
    let within = ring_within d k q ring in
    let coded = c.graph-graph.ensures.coded in
    let x = key_at c.args.keys.now k in
    let y = key_at c.args.keys.now q in
    let is_x = c.requires.keys.each k inside in
    let is_y = c.requires.keys.each q within in
    let more = below_more pair_place (IsSameCode d) (λ pair. pair.0) (first_order d) k [] (pairs_of old) in
    elim c.if-is_same.branch [
      | then-is_same+in_ok-push w ↦ (
          let told = c.is_same.ensures.0 w.if-is_same.true in
          more _ c.loop-k.invariant (same_here d coded k q ring x y (pairs_of old) _ inside told.0 within is_x is_y told.1
          (pushed_pair old _ k q (ap (λ v. v.items) w.found-is ∙ w.in_ok-push.ensures.items))))
      | else-is_same w ↦ rw w.found-is (more (pairs_of old) c.loop-k.invariant
          (same_pass d coded k q ring x y (pairs_of old) is_x is_y
          (λ told. true≢false (sym (c.is_same.ensures.1 told) ∙ w.if-is_same.false))))
    ]

pub returns : goal.returns
returns c =
    let d = c.args.coded.now in
    let states = c.states-states.ensures ∙ ap (λ (g : StateGraph). g.states) c.graph-graph.ensures.same in
    below_all pair_place (IsSameCode d) (λ pair. pair.0) (first_order d) c.loop-k.k (pairs_of c.loop-k.found.items)
    (λ pair is. (
    let order = is.order in
    let within = is.within in
    omega (arith, c.loop-k-test.false, states)))
    c.loop-k.invariant
