use Rattle.std.proofs.Common.{◌<◌, ℕ, ap, arith, refl, length}
use Rattle.si_graph.proofs.ArcFacts.{IsInside}
use Rattle.si_graph.proofs.GroupLemmas.{all_in_order}
use Rattle.si_base.specs.declared.graph.Edge.{Edge}
use Rattle.si_graph.specs.Loops.Chains.{StoredArcs}
use Rattle.si_graph.proofs.graph.Graph.make.Goals as goal

-- the arc joins states below the bound
abbrev JoinsBelow : ℕ → Edge → Type 0
JoinsBelow states a = (a.from < states) × (a.to < states)

pub build-requires-clause-few : goal.build-requires-clause-few
build-requires-clause-few c = omega (arith, c.in_ok-edges.ensures.no_longer, c.requires.few_edges)

pub build-requires-clause-within : goal.build-requires-clause-within
build-requires-clause-within c =
    all_in_order (JoinsBelow c.args.states) _ _ c.in_ok-edges.ensures.same
    (λ k d below. let both = c.requires.within k d below in (both.0, both.2))

pub invariant_of-result : goal.invariant_of-result
invariant_of-result c =
    let inside = IsInside c.args.states (length c.args.signals.items) in
    let ordered = c.in_ok-edges.ensures in
    rw c.in_ok-arcs.ensures (record {
      few_states = c.requires.few_states;
      few_signals = c.requires.few_signals;
      few_edges = omega (arith, ordered.no_longer, c.requires.few_edges);
      within = all_in_order inside _ _ ordered.same c.requires.within;
      starts = c.requires.start;
      kinds = c.requires.kinds;
      names = c.requires.names;
      ordered = ordered.sorted;
    })

pub returns : goal.returns
returns c =
    let ordered = c.in_ok-edges.ensures in
    let edges = ap (λ (a : StoredArcs). a.edges) c.in_ok-arcs.ensures in
    record {
      signals_are = refl;
      states_are = ap (λ (a : StoredArcs). a.states) c.in_ok-arcs.ensures;
      start_is = refl;
      graph = invariant_of-result c;
      arcs = λ a. (λ there. (ordered.same a).0 (rw edges at there), λ there. rw edges ((ordered.same a).1 there));
    }
