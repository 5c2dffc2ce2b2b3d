use Rattle.std.proofs.Common.{◌<◌, [], All, length, take}
use Rattle.si_candidates.specs.Loops.Adding.{AddsFirst}
use Rattle.si_candidates.specs.Loops.Asked.{asked_for, asks_of, AreReady}
use Rattle.si_candidates.specs.Blocks.{driven_events}
use Rattle.si_candidates.proofs.blocks.add_intervals.Given as goal

abbrev pub invariant-loop-component : goal.invariant-loop-component
invariant-loop-component l = record {
  ready : AreReady l.graph.graph.states l.asked.seeds.items l.asked.stops.items;
  known : All (λ e. e.sig < length l.graph.graph.signals) l.asked.stops.items;
  adds : AddsFirst l.graph.graph
      (asks_of l.graph.graph.states (driven_events 0 l.graph.graph.signals) (take l.component-index l.components)) []
      l.fn.found.items (asked_for l.asked.seeds.items l.asked.stops.items) l.found.items;
}
