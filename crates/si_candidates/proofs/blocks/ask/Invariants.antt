use Rattle.std.proofs.Common.{◌<◌, ◌≤◌, ◌-◌, All, length, take}
use Rattle.si_candidates.specs.Loops.Adding.{AddsFirst}
use Rattle.si_candidates.specs.Loops.Asked.{asked_for, asks_from, AreReady}
use Rattle.si_candidates.specs.Blocks.{state_set}
use Rattle.si_candidates.proofs.blocks.ask.Given as goal

abbrev pub invariant-loop-at : goal.invariant-loop-at
invariant-loop-at l = record {
  within : l.at ≤ length l.stops;
  ready : AreReady l.graph.graph.states l.asked.seeds.items l.asked.stops.items;
  known : All (λ e. e.sig < length l.graph.graph.signals) l.asked.stops.items;
  adds : AddsFirst l.graph.graph (asks_from (state_set l.graph.graph.states l.from) (take l.at l.stops))
      (asked_for l.fn.asked.seeds.items l.fn.asked.stops.items) l.fn.found.items
      (asked_for l.asked.seeds.items l.asked.stops.items) l.found.items;
}

abbrev pub decreases-loop-at : goal.decreases-loop-at
decreases-loop-at l = length l.stops - l.at
