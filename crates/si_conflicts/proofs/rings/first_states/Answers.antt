use Rattle.std.proofs.Common.{◌≡◌, ℕ, ◌+◌, ◌-◌, ◌<◌, ◌∙◌, arith, sym, ap, subst, Option}
use Rattle.std.specs.BTreeMap.{get}
use Rattle.std.specs.Ordering.{nat_cmp}
use Rattle.si_base.specs.Graph.{StateGraph}
use Rattle.si_conflicts.specs.Loops.Links.{IsFirstOfCode}
use Rattle.si_conflicts.proofs.LinkLemmas.{firsts_more}
use Rattle.si_conflicts.proofs.rings.first_states.Goals as goal

pub loop-s-preserved : goal.loop-s-preserved
loop-s-preserved c =
    let d = c.args.coded.now in
    let s = c.loop-s.s - 1 in
    let here : s + 1 ≡ c.loop-s.s = omega (arith, c.loop-s-test.true) in
    let bound : c.states-states.result ≡ d.graph.states =
    c.states-states.ensures ∙ ap (λ (g : StateGraph). g.states) c.graph-graph.ensures.same in
    let within : s < d.graph.states = omega (arith, c.loop-s-test.true, c.loop-s.auto.s, bound) in
    let old : ℕ → Option ℕ = λ k. get nat_cmp c.loop-s.firsts k in
    let new : ℕ → Option ℕ = λ k. get nat_cmp c.put_first.new.firsts k in
    let firsts : (k : ℕ) → IsFirstOfCode d (s + 1) k (old k) =
    λ k. subst (λ i. IsFirstOfCode d i k (old k)) (sym here) (c.loop-s.invariant k) in
    let is_code = c.code-code.ensures in
    firsts_more d s old new within firsts (sym (ap new is_code) ∙ c.in_ok-put_first.ensures.there)
    (λ k apart. c.in_ok-put_first.ensures.others k (λ same. apart (same ∙ is_code)))
