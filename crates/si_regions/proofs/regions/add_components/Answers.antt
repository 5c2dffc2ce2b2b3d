use Rattle.std.proofs.Common.{◌≡◌, ℕ, ◌≤◌, ◌++◌, ◌∷◌, ◌∙◌, List, [], Bool, get_or, true, false, IsTrue, arith, ap, sym}
use Rattle.std.proofs.Common.{Contains, refl, subst}
use Rattle.std.proofs.lemmas.Bool.{true≢false}
use Rattle.std.proofs.lemmas.List.{length-replicate}
use Rattle.si_base.specs.Graph.{StateGraph, enables}
use Rattle.si_base.specs.Sets.{IsIn}
use Rattle.si_regions.proofs.RegionLemmas.{enables_within}
use Rattle.si_regions.proofs.RegionComponents.{found_none, found_pass, found_more, found_event}
use Rattle.si_regions.specs.declared.regions.Component.{Component}
use Rattle.si_regions.proofs.StateLists.{all_below}
use Rattle.si_regions.proofs.regions.add_components.Goals as goal
use Rattle.si_regions.proofs.regions.add_components.Goals.{then-is_new+in_ok-component+in_ok-push, else-is_new}

-- what isn't new stands already
in_or : (b : Bool) (done : List Bool) (k : ℕ) → b ≡ false → ((IsIn done k → ⊥) → b ≡ true) → IsIn done k
in_or b done k old fresh = pick (get_or done k false) refl
  where
    pick : (v : Bool) → get_or done k false ≡ v → IsIn done k
    pick true e = e
    pick false e = absurd (true≢false (sym (fresh (λ there. true≢false (sym there ∙ e))) ∙ old))

pub loop-k-init : goal.loop-k-init
loop-k-init c =
    let d = c.args.coded.now in
    let states = c.states.ensures ∙ ap (λ (h : StateGraph). h.states) c.graph-g.ensures.same in
    rw c.in_ok-done.ensures (record {
      size = length-replicate c.states.result false ∙ states;
      idle = c.requires.idle;
      found = found_none d c.args.e.now c.states.result c.args.out.now.items c.requires.before;
    })

pub add_all-requires : goal.add_all-requires
add_all-requires c =
    let x = c.in_ok-component.component in
    let d = c.args.coded.now in
    let (r, is, same) = c.in_ok-component.ensures.component in
    all_below c.as_slice.result.now x.er _ c.as_slice.ensures.states (λ t there. rw c.loop-k.invariant.size
    (enables_within d.graph t r.event c.graph-g.ensures.coded.graph_is
    (is.excited.members t (subst (λ (y : Component). Contains y.er t) (sym same) there))))

pub loop-k-preserved : goal.loop-k-preserved
loop-k-preserved c =
    let d = c.args.coded.now in
    let e = c.args.e.now in
    let k = c.loop-k.k in
    let x = c.loop-k.invariant in
    let enabling = c.in_ok-enabling.ensures in
    elim c.if-is_new.branch [
      | then-is_new+in_ok-component+in_ok-push w ↦ (
          let new = w.in_ok-component.component in
          let fresh = c.is_new.ensures.0 w.if-is_new.true in
          let is = w.in_ok-component.ensures in
          let out : c.if-is_new.out.items ≡ c.loop-k.out.items ++ new ∷ [] =
          ap (λ v. v.items) w.out-is ∙ w.in_ok-push.ensures.items in
          let grown = rw w.as_slice.ensures.states at w.add_all.ensures.exactly in
          rw (out, w.done-is, w.search-is) (record {
            size = w.add_all.ensures.size ∙ x.size;
            idle = is.idle;
            found = found_more d e k c.loop-k.out.items c.loop-k.done x.found w.add_all.new.set new is.component
                is.event is.has fresh.1 grown;
          }))
      | else-is_new w ↦ (
          let old = ap (λ v. v.items) w.out-is in
          let stands : IsTrue (enables d.graph k e) → IsIn c.loop-k.done k =
          λ on. in_or c.is_new.result c.loop-k.done k w.if-is_new.false
          (λ fresh. c.is_new.ensures.1 ((enabling.exactly k).1 on, fresh)) in
          rw (old, w.done-is, w.search-is) (record {
            size = x.size;
            idle = x.idle;
            found = found_pass d e k c.loop-k.out.items c.loop-k.done x.found stands;
          }))
    ]

pub returns-clause-after : goal.returns-clause-after
returns-clause-after c =
    let d = c.args.coded.now in
    let states = c.states-k-end.ensures ∙ ap (λ (h : StateGraph). h.states) c.graph-g.ensures.same in
    let all : d.graph.states ≤ c.loop-k.k = omega (arith, c.loop-k-test.false, states) in
    found_event d c.args.e.now c.loop-k.k c.loop-k.out.items c.loop-k.done c.loop-k.invariant.found
    c.graph-g.ensures.coded.graph_is all
