-- How many conflicts a candidate leaves, in parts.
use Rattle.std.specs.Prelude.{◌≡◌, ℕ, ◌*◌, ◌<◌, ◌≤◌, Bool, List, length, Option, None, IfSome}
use Rattle.std.specs.List.{slice_index_or}
use Rattle.si_base.specs.Codes.{CodedGraph}
use Rattle.si_base.specs.Limits.{max_states}
use Rattle.si_insert.specs.declared.partition.Class.{Class}
use Rattle.si_candidates.specs.Blocks.{block_at}
use Rattle.si_candidates.specs.Parts.{AreClasses}
use Rattle.si_conflicts.specs.declared.members.Member.{Member}
use Rattle.si_conflicts.specs.Left.{LeavesConflicts}
use Rattle.si_conflicts.specs.Loops.Own.{HasOwnConflicts}
use Rattle.si_conflicts.specs.Loops.Apart.{pair_sum, stable_count}
use Rattle.si_conflicts.specs.Loops.Chains.{AreChains}
use Rattle.si_resolve.specs.declared.counts.Counts.{Counts}

-- whatever classes the blocks have leave so many conflicts
abbrev pub AreLeft : CodedGraph → List Bool → List Bool → ℕ → Type 0
AreLeft c plus minus n = (classes : List Class) → AreClasses c.graph plus minus classes
    → LeavesConflicts c classes n

-- so many of them are no block's own
abbrev pub AreTold : CodedGraph → List Member → List Bool → List Bool → ℕ → Type 0
AreTold c members plus minus n = (classes : List Class) → AreClasses c.graph plus minus classes
    → n ≡ pair_sum (stable_count classes) members

-- at least so many are
abbrev pub HaveTold : CodedGraph → List Member → List Bool → List Bool → ℕ → Type 0
HaveTold c members plus minus least = (classes : List Class) → AreClasses c.graph plus minus classes
    → least ≤ pair_sum (stable_count classes) members

-- the set has so many conflicts of its own
pub record IsOwn (c : CodedGraph) (members : List Member) (set : List Bool) (n : ℕ)
    : Type 0 where
  pub own : HasOwnConflicts c.graph members set n
  pub few : n ≤ max_states * max_states

abbrev pub own_at : List (Option ℕ) → ℕ → Option ℕ
own_at own k = slice_index_or own k None

-- the chains of the graph, and what is known of the blocks
pub record AreCounts (c : CodedGraph) (blocks : List (List Bool)) (counts : Counts)
    : Type 0 where
  pub chains : AreChains c counts.chains
  pub size : length counts.own.items ≡ length blocks
  pub each : (k : ℕ) → k < length blocks
      → IfSome (own_at counts.own.items k) (IsOwn c counts.chains.members (block_at blocks k))
