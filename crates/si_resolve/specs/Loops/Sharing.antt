-- The crowds that blocks share: codes that many states have.
use Rattle.std.specs.Prelude.{◌≡◌, ℕ, ◌<◌, ◌≤◌, Bool, List, length, Option, Some, None, IfSome}
use Rattle.std.specs.List.{slice_index_or}
use Rattle.si_candidates.specs.Blocks.{block_at}
use Rattle.si_conflicts.specs.declared.crowds.Crowd.{Crowd}
use Rattle.si_conflicts.specs.declared.members.Member.{Member}
use Rattle.si_conflicts.specs.Loops.Crowds.{HasOfCrowd}

abbrev pub crowd_at : List (Option Crowd) → ℕ → Option Crowd
crowd_at crowds k = slice_index_or crowds k None

-- a crowd that is told beside a block has a state in it
pub record HaveCrowds (members : List Member) (blocks : List (List Bool))
    (crowds : List (Option Crowd)) : Type 0 where
  pub count : length crowds ≡ length blocks
  pub each : (k : ℕ) → k < length blocks
      → IfSome (crowd_at crowds k) (HasOfCrowd members (block_at blocks k))

-- both are told, have one code, and the first has at least so many states
pub record ShareCrowd (one other : Option Crowd) (least : ℕ) : Type 0 where
  pub first : Crowd
  pub second : Crowd
  pub first_told : one ≡ Some first
  pub second_told : other ≡ Some second
  pub same_code : second.code ≡ first.code
  pub enough : least ≤ first.states
