-- The blocks that a search has to look at.
use Rattle.std.specs.Prelude.{◌≡◌, ℕ, ◌<◌, ◌↔◌, true, false, Bool, List, length}
use Rattle.std.specs.List.{slice_index_or}
use Rattle.si_base.specs.Graph.{StateGraph}
use Rattle.si_base.specs.Limits.{max_signals}
use Rattle.si_base.specs.Codes.{CodedGraph, IsCoded}
use Rattle.si_base.specs.Proper.{IsProper}
use Rattle.si_base.specs.Sets.{IsIn}
use Rattle.si_candidates.specs.Blocks.{AreBlocks, block_at}
use Rattle.si_candidates.specs.Blocking.{MaySwitch}
use Rattle.si_candidates.specs.declared.tree.Link.{Link}
use Rattle.si_candidates.specs.Loops.Sides.{AreSides}
use Rattle.si_candidates.specs.Loops.Tree.{IsTree}
use Rattle.si_conflicts.specs.Loops.Chains.{AreChains, Chains}
use Rattle.si_conflicts.specs.Conflicts.{AreFirstConflicts}
use Rattle.si_resolve.specs.Loops.Aspects.{HaveAspects, max_compared}
use Rattle.si_resolve.specs.Loops.Sharing.{HaveCrowds}
use Rattle.si_resolve.specs.declared.block_list.BlockList.{BlockList}

-- the block has a state, and a new signal may switch in it
pub record IsUsable (g : StateGraph) (block : List Bool) : Type 0 where
  pub state : ℕ
  pub there : IsIn block state
  pub may_switch : MaySwitch g (IsIn block)

-- for each block whether it is usable
pub record AreUsable (g : StateGraph) (blocks : List (List Bool)) (usable : List Bool)
    : Type 0 where
  pub count : length usable ≡ length blocks
  pub each : (k : ℕ) → k < length blocks
      → (slice_index_or usable k false ≡ true) ↔ IsUsable g (block_at blocks k)

-- for each usable block the sides of the states, along one tree of arcs
pub record HaveSides (g : StateGraph) (blocks : List (List Bool)) (usable : List Bool)
    (sides : List (List Bool)) : Type 0 where
  pub tree : List Link
  pub is_tree : IsTree g tree
  pub count : length sides ≡ length blocks
  pub each : (k : ℕ) → k < length blocks → slice_index_or usable k false ≡ true
      → AreSides g tree (block_at blocks k) (block_at sides k)

-- c is a proper graph with room for one more signal, and the list has its blocks, their sides, how
-- they lie to the first conflicts, and crowds with states in them
pub record AreSearched (c : CodedGraph) (list : BlockList) : Type 0 where
  pub coded : IsCoded c
  pub proper : IsProper c.graph
  pub few_signals : length c.graph.signals < max_signals
  pub are : AreBlocks c list.blocks.items
  pub usable : AreUsable c.graph list.blocks.items list.usable.items
  pub sides : HaveSides c.graph list.blocks.items list.usable.items list.sides.items
  pub pairs : List (ℕ × ℕ)
  pub pairs_are : AreFirstConflicts c max_compared pairs
  pub aspects : HaveAspects list.blocks.items list.usable.items list.sides.items pairs
      list.columns.items
  pub chains : Chains
  pub chains_are : AreChains c chains
  pub crowds : HaveCrowds chains.members list.blocks.items list.crowds.items
