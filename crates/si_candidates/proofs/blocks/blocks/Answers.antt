use Rattle.std.proofs.Common.{◌∙◌, map}
use Rattle.si_regions.specs.declared.regions.Component.{Component}
use Rattle.si_candidates.specs.Blocks.{state_set}
use Rattle.si_candidates.proofs.BlockLists.{all_parts}
use Rattle.si_candidates.proofs.blocks.blocks.Goals as goal

pub returns : goal.returns
returns c =
    let states = c.args.graph.now.graph.states in
    let components = c.args.components.now.items in
    let excited = rw (c.as_slice.ensures.value, c.new-found.ensures.items) at c.in_ok-add_excited.ensures in
    let switched = rw c.as_slice-2.ensures.value at c.in_ok-add_switched.ensures in
    let adds = rw c.as_slice-3.ensures.value at c.in_ok-add_intervals.ensures in
    record {
      components = components;
      are = c.requires;
      intervals = adds.sets;
      intervals_are = adds.are;
      blocks_are = c.in_ok-sets.ensures ∙ all_parts (map (λ (x : Component). state_set states x.er) components)
          (map (λ (x : Component). state_set states x.sr) components) adds.sets _ _ _ excited switched adds.added;
    }
