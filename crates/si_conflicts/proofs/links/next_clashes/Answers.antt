use Rattle.std.proofs.Common.{◌≡◌, ℕ, ◌+◌, ◌-◌, ◌<◌, ◌≤◌, ◌∙◌, Option, arith, ap, length-set}
use Rattle.si_base.specs.Graph.{StateGraph}
use Rattle.si_base.specs.Codes.{code}
use Rattle.si_conflicts.specs.Loops.Links.{IsFirstOfCode, IsFirstClash, HasNextClash}
use Rattle.si_conflicts.proofs.LinkLemmas.{clash_links_more}
use Rattle.si_conflicts.proofs.links.next_clashes.Goals as goal

pub loop-k-preserved : goal.loop-k-preserved
loop-k-preserved c =
    let d = c.args.coded.now in
    let s = c.loop-k.k - 1 in
    let here : s + 1 ≡ c.loop-k.k = omega (arith, c.loop-k-test.true) in
    let size = c.loop-k.invariant.size in
    let bound : c.states-states.result ≡ d.graph.states =
    c.states-states.ensures ∙ ap (λ (g : StateGraph). g.states) c.graph-graph.ensures.same in
    let within : s < d.graph.states = omega (arith, c.loop-k-test.true, c.loop-k.auto.k, bound) in
    let links : (j : ℕ) → s + 1 ≤ j → j < d.graph.states → HasNextClash d c.loop-k.next.items j =
    λ j low high. c.loop-k.invariant.links j (omega (arith, here, low)) high in
    let o : Option ℕ = c.first_clash-clash.result in
    let equal : IsFirstOfCode d (s + 1) (code d s) c.link.result =
    rw c.link.ensures (c.requires.equals.links s within) in
    let first : IsFirstClash d s (s + 1) o = c.first_clash-clash.ensures (s + 1) (omega arith) equal in
    record {
      size = length-set c.loop-k.next.items s o ∙ size;
      links = clash_links_more d s c.loop-k.next.items o (omega (arith, within, size)) first links;
    }
