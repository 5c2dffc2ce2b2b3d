-- States of equal code as rings.
use Rattle.std.specs.Prelude.{◌≡◌, ℕ, ◌+◌, ◌<◌, ◌==◌, ◌⊎◌, not, Bool, List, length, map, filter}
use Rattle.std.specs.Prelude.{All, Some, None, slice_index}
use Rattle.std.specs.List.{range_with_len}
use Rattle.std.specs.List.Sorted.{IsPermutation, IsSorted}
use Rattle.std.specs.declared.cmp.Ordering.{Ordering}
use Rattle.std.specs.Ordering.{nat_cmp, ordering_then}
use Rattle.si_base.specs.Codes.{CodedGraph, code}
use Rattle.si_conflicts.specs.declared.members.Member.{Member}
use Rattle.si_conflicts.specs.Loops.Keys.{IsKey, key_cmp}
use Rattle.si_conflicts.specs.Loops.Links.{IsFirstOfCode}

-- t is the next later state of the code of s, or, where there is none, the first of its code
abbrev pub IsNextInRing : CodedGraph → ℕ → ℕ → Type 0
IsNextInRing c s t = IsFirstOfCode c (s + 1) (code c s) (Some t)
    ⊎ (IsFirstOfCode c (s + 1) (code c s) None × IsFirstOfCode c 0 (code c s) (Some t))

-- for each state the next of its ring
pub record AreRings (c : CodedGraph) (next : List ℕ) : Type 0 where
  pub count : length next ≡ c.graph.states
  pub each : (s : ℕ) → s < c.graph.states → IsNextInRing c s (slice_index next s)

-- the ring of s has another state
abbrev pub has_equal : List ℕ → ℕ → Bool
has_equal next s = not (slice_index next s == s)

-- such states, in state order
abbrev pub with_equals : List ℕ → ℕ → List ℕ
with_equals next states = filter (has_equal next) (range_with_len 0 states)

-- the order of keys, then of states
abbrev pub member_cmp : Member → Member → Ordering
member_cmp x y = ordering_then (key_cmp x.key y.key) (nat_cmp x.state y.state)

-- just such states, each once, with their keys, those of one key side by side
pub record AreMembers (c : CodedGraph) (next : List ℕ) (members : List Member) : Type 0 where
  pub states : IsPermutation (with_equals next c.graph.states) (map (λ m. m.state) members)
  pub within : All (λ m. m.state < c.graph.states) members
  pub keys : All (λ m. IsKey c m.state m.key) members
  pub sorted : IsSorted member_cmp members

-- what chains show: the next state of each state's ring, and the states of rings of two or more
pub record Chains : Type 0 where
  pub next : List ℕ
  pub members : List Member

-- the chains of c
pub record AreChains (c : CodedGraph) (chains : Chains) : Type 0 where
  pub rings : AreRings c chains.next
  pub members_are : AreMembers c chains.next chains.members
