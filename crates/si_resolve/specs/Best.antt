-- (field) The best candidate of a graph.
use Rattle.std.specs.Prelude.{ℕ, ◌<◌, ◌≤◌, Bool, List, [], ◌∷◌}
use Rattle.si_base.specs.Order.{IsFirst}
use Rattle.si_base.specs.Codes.{CodedGraph}
use Rattle.si_base.specs.Proper.{IsConflict, pair_place}
use Rattle.si_conflicts.specs.Conflicts.{HasConflicts}
use Rattle.si_conflicts.specs.Left.{LeavesConflicts}
use Rattle.si_insert.specs.declared.partition.Class.{Class}
use Rattle.si_insert.specs.Accepted.{IsAccepted}
use Rattle.si_candidates.specs.Blocks.{AreBlocks, block_at, IsCandidate}
use Rattle.si_candidates.specs.Parts.{AreClasses}

-- a pair of blocks with its partition and the number of conflicts that this leaves
pub record Choice : Type 0 where
  pub i : ℕ
  pub j : ℕ
  pub classes : List Class
  pub conflicts : ℕ

-- an accepted candidate
pub record IsChoice (c : CodedGraph) (blocks : List (List Bool)) (x : Choice) : Type 0 where
  pub candidate : IsCandidate blocks x.i x.j
  pub are : AreClasses c.graph (block_at blocks x.i) (block_at blocks x.j) x.classes
  pub accepted : IsAccepted c.graph x.classes
  pub leaves : LeavesConflicts c x.classes x.conflicts

-- fewer conflicts come first, then the order of candidates: the place j, then i
abbrev pub choice_place : Choice → List ℕ
choice_place x = x.conflicts ∷ x.j ∷ x.i ∷ []

-- the best candidate
pub record IsBest (c : CodedGraph) (x : Choice) : Type 0 where
  pub blocks : List (List Bool)
  pub are : AreBlocks c blocks
  pub first : IsFirst choice_place (IsChoice c blocks) x

-- the best candidate has fewer conflicts than the graph
pub record Improves (c : CodedGraph) (x : Choice) : Type 0 where
  pub best : IsBest c x
  pub before : ℕ
  pub counted : HasConflicts c before
  pub fewer : x.conflicts < before

-- no accepted candidate has fewer conflicts than the graph
abbrev pub NoneImproves : CodedGraph → Type 0
NoneImproves c = (x : Choice) (blocks : List (List Bool)) (n : ℕ)
    → AreBlocks c blocks → IsChoice c blocks x → HasConflicts c n → n ≤ x.conflicts

-- a graph with a conflict, the first of which is the pair, whose best candidate doesn't exist or
-- has no fewer conflicts
pub record IsStuck (c : CodedGraph) (pair : ℕ × ℕ) : Type 0 where
  pub conflict : IsFirst pair_place (IsConflict c) pair
  pub no_better : (x : Choice) (n : ℕ) → IsBest c x → HasConflicts c n → n ≤ x.conflicts
