use Rattle.std.proofs.Common.{◌≡◌, ◌∙◌, ap, refl, codes, option_map}
use Rattle.si_base.specs.Graph.{StateGraph}
use Rattle.si_walks.specs.declared.arcs.Arcs.TheVariants.{All}
use Rattle.si_walks.specs.Joined.{source_of}
use Rattle.si_explain.specs.ExplainText.{Explained}
use Rattle.si_explain.proofs.EventLemmas.{start_leads, walk_signals, events_line_as, code_line_as}
use Rattle.si_explain.proofs.ExplainLines.{conflict_by_calls}
use Rattle.si_explain.proofs.explain.add_conflict.Goals as goal

pub shortest_walk-requires-clause-leads : goal.shortest_walk-requires-clause-leads
shortest_walk-requires-clause-leads c = rw (c.start.ensures, c.graph-graph.ensures.same)
    (start_leads c.args.coded.now c.args.p c.graph-graph.ensures.coded c.requires.p)

pub shortest_walk-requires-2-clause-leads : goal.shortest_walk-requires-2-clause-leads
shortest_walk-requires-2-clause-leads c = rw (c.start-2.ensures, c.graph-graph.ensures.same)
    (start_leads c.args.coded.now c.args.q c.graph-graph.ensures.coded c.requires.q)

pub add_events_line-requires-clause-events : goal.add_events_line-requires-clause-events
add_events_line-requires-clause-events c =
    rw (c.as_slice-2.ensures.value, c.signals-signals.ensures, c.graph-graph.ensures.same)
    (walk_signals c.args.coded.now.graph All c.start.result c.in_ok-to_p.to_p.items c.args.p
    c.graph-graph.ensures.coded.graph_is c.in_ok-to_p.ensures.holds)

pub add_events_line-requires-2-clause-events : goal.add_events_line-requires-2-clause-events
add_events_line-requires-2-clause-events c =
    rw (c.as_slice-3.ensures.value, c.signals-signals.ensures, c.graph-graph.ensures.same)
    (walk_signals c.args.coded.now.graph All c.start-2.result c.in_ok-to_q.to_q.items c.args.q
    c.graph-graph.ensures.coded.graph_is c.in_ok-to_q.ensures.holds)

pub returns : goal.returns
returns c =
    let coded = c.args.coded.now in
    let x : Explained = record {
      pair = (c.args.p, c.args.q);
      to_first = c.in_ok-to_p.to_p.items;
      to_second = c.in_ok-to_q.to_q.items;
      source = option_map source_of c.in_ok-source.source;
      twins = c.are_twins-twins.result;
      kin = c.are_kin-kin.result;
    } in
    let states = c.args.states.now in
    let known : c.signals-signals.result.now ≡ coded.graph.signals =
    c.signals-signals.ensures ∙ ap (λ (g : StateGraph). g.signals) c.graph-graph.ensures.same in
    let code_line =
    code_line_as _ coded.graph.signals _ _ _ _ known c.code.ensures c.in_ok-add_values_line.ensures in
    let to_first = events_line_as (codes "walk") _ coded.graph.signals states c.args.p _ x.to_first _ _ known
    c.as_slice-2.ensures.value c.in_ok-add_events_line.ensures in
    let to_second = events_line_as (codes "walk") _ coded.graph.signals states c.args.q _ x.to_second _ _ known
    c.as_slice-3.ensures.value c.in_ok-add_events_line-2.ensures in
    record {
      explained = x;
      pair_is = refl;
      is = record {
        to_first = rw (c.start.ensures, c.graph-graph.ensures.same) at c.in_ok-to_p.ensures;
        to_second = rw (c.start-2.ensures, c.graph-graph.ensures.same) at c.in_ok-to_q.ensures;
        source = c.in_ok-source.ensures;
        twins = c.are_twins-twins.ensures;
        kin = c.are_kin-kin.ensures coded (rw c.as_slice.ensures.value c.requires.kin);
      };
      added = conflict_by_calls coded c.args.states.now x c.args.text.now _ _ _ _ _ _ _ _ _ _ _ c.name_at.ensures
          c.name_at-2.ensures c.in_ok-add_line.ensures code_line c.in_ok-add_enabled.ensures
          c.in_ok-add_enabled-2.ensures to_first to_second c.in_ok-add_source.ensures
          (rw c.tells_twins-told_twins.ensures at c.in_ok-add_unresolvable.ensures)
          (rw c.tells_kin-told_kin.ensures at c.in_ok-add_unresolvable-2.ensures);
    }
