use Rattle.std.proofs.Common.{◌≡◌, ℕ, ◌+◌, ◌*◌, ◌∙◌, [], length, arith, ap, subst}
use Rattle.si_base.specs.Graph.{StateGraph}
use Rattle.si_regions.specs.Loops.Searching.{ComponentsTo}
use Rattle.si_regions.proofs.RegionLemmas.{regions_all, regions_none, place_below}
use Rattle.si_regions.proofs.RegionComponents.{idle_search}
use Rattle.si_regions.proofs.regions.components.Goals as goal

pub add_components-requires-clause-before : goal.add_components-requires-clause-before
add_components-requires-clause-before c =
    let P : ℕ → Type 0 = λ k. ComponentsTo c.args.graph.now k 0 c.loop-z.out.items in
    let same : 2 * c.loop-z.z ≡ 2 * c.loop-z.z + 0 = omega arith in
    subst P same c.loop-z.invariant.to

pub add_components-requires-in-loop-z-clause-before : goal.add_components-requires-in-loop-z-clause-before
add_components-requires-in-loop-z-clause-before c =
    let P : ℕ → Type 0 = λ k. ComponentsTo c.args.graph.now k 0 c.add_components.new.out.items in
    let same : 2 * c.loop-z.z + 0 + 1 ≡ 2 * c.loop-z.z + 1 = omega arith in
    subst P same c.in_ok-add_components.ensures.after

pub loop-z-preserved : goal.loop-z-preserved
loop-z-preserved c =
    let P : ℕ → Type 0 = λ k. ComponentsTo c.args.graph.now k 0 c.add_components-in-loop-z.new.out.items in
    let same : 2 * c.loop-z.z + 1 + 1 ≡ 2 * (c.loop-z.z + 1) = omega arith in
    record { idle = c.in_ok-add_components-2.ensures.idle; to = subst P same c.in_ok-add_components-2.ensures.after }

pub loop-z-init : goal.loop-z-init
loop-z-init c =
    let d = c.args.graph.now in
    let states = c.states.ensures ∙ ap (λ (h : StateGraph). h.states) c.graph-g.ensures.same in
    record {
      idle = rw c.in_ok-search.ensures (idle_search d.graph.states c.states.result states);
      to = record { regions = []; to = regions_none d; components_are = c.new-out.ensures.items };
    }

pub returns : goal.returns
returns c =
    let d = c.args.graph.now in
    let found = c.loop-z.invariant.to in
    let signals : length c.signals-z-end.result.now ≡ length d.graph.signals =
    ap length c.signals-z-end.ensures ∙ ap (λ (h : StateGraph). length h.signals) c.graph-g.ensures.same in
    record {
      regions = found.regions;
      are = regions_all d (2 * c.loop-z.z) found.regions
          (λ t e on. place_below d c.loop-z.z t e c.graph-g.ensures.coded.graph_is
          (omega (arith, signals, c.loop-z-test.false)) on) found.to;
      components_are = found.components_are;
    }
