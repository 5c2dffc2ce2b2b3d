use Rattle.std.proofs.Common.{◌≡◌, map, take}
use Rattle.si_candidates.specs.Loops.Adding.{with_blocks}
use Rattle.si_candidates.specs.Blocks.{state_set}
use Rattle.si_candidates.proofs.blocks.add_excited.Given as goal

abbrev pub invariant-loop-component : goal.invariant-loop-component
invariant-loop-component l = l.found.items
    ≡ with_blocks l.fn.found.items
    (map (λ x. state_set l.graph.graph.states x.er) (take l.component-index l.components))
