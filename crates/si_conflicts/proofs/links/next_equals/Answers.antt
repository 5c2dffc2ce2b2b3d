use Rattle.std.proofs.Common.{◌≡◌, ℕ, ◌+◌, ◌-◌, ◌<◌, ◌≤◌, ◌∙◌, arith, sym, ap, subst, get_or, Option, None, length-set}
use Rattle.std.specs.BTreeMap.{get}
use Rattle.std.specs.Ordering.{nat_cmp}
use Rattle.si_base.specs.Graph.{StateGraph}
use Rattle.si_base.specs.Codes.{code}
use Rattle.si_conflicts.specs.Loops.Links.{IsFirstOfCode}
use Rattle.si_conflicts.proofs.LinkLemmas.{firsts_more, links_more}
use Rattle.si_conflicts.proofs.links.next_equals.Goals as goal

pub loop-s-preserved : goal.loop-s-preserved
loop-s-preserved c =
    let d = c.args.coded.now in
    let s = c.loop-s.s - 1 in
    let here : s + 1 ≡ c.loop-s.s = omega (arith, c.loop-s-test.true) in
    let size = c.loop-s.invariant.size in
    let bound : c.states-states.result ≡ d.graph.states = c.states-states.ensures ∙ ap (λ (g : StateGraph). g.states)
    c.graph-graph.ensures.same in
    let within : s < d.graph.states = omega (arith, c.loop-s-test.true, c.loop-s.auto.s, bound) in
    let old : ℕ → Option ℕ = λ k. get nat_cmp c.loop-s.firsts k in
    let new : ℕ → Option ℕ = λ k. get nat_cmp c.put_first.new.firsts k in
    let firsts : (k : ℕ) → IsFirstOfCode d (s + 1) k (old k) = λ k. subst (λ i. IsFirstOfCode d i k (old k)) (sym here)
    (c.loop-s.invariant.firsts k) in
    let links : (j : ℕ) → s + 1 ≤ j → j < d.graph.states
    → IsFirstOfCode d (j + 1) (code d j) (get_or c.loop-s.next.items j None) = λ j low high.
    c.loop-s.invariant.links j (omega (arith, here, low)) high in
    let is_code = c.code-code.ensures in
    let found = c.in_ok-later.ensures.found in
    let o : Option ℕ = c.in_ok-later.later in
    let first : IsFirstOfCode d (s + 1) (code d s) o = subst (λ x. IsFirstOfCode d (s + 1) (code d s) x)
    (sym (found ∙ ap old is_code)) (firsts (code d s)) in
    record {
      size = length-set c.loop-s.next.items s o ∙ size;
      firsts = firsts_more d s old new within firsts (sym (ap new is_code) ∙ c.in_ok-later.ensures.there)
          (λ k apart. c.in_ok-later.ensures.others k (λ same. apart (same ∙ is_code)));
      links = links_more d s c.loop-s.next.items o (omega (arith, within, size)) first links;
    }
