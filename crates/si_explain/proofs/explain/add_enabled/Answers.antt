use Rattle.si_explain.proofs.EventLemmas.{events_signals}
use Rattle.si_explain.proofs.explain.add_enabled.Goals as goal

pub add_events_line-requires-clause-events : goal.add_events_line-requires-clause-events
add_events_line-requires-clause-events c =
    rw (c.as_slice.ensures.value, c.in_ok-events.ensures, c.signals.ensures, c.graph-graph.ensures.same)
    (events_signals c.args.coded.now.graph c.args.s c.graph-graph.ensures.coded.graph_is)
