-- Codes that many states share.
use Rattle.std.specs.Prelude.{◌≡◌, ℕ, ◌==◌, ltb, not, Bool, List, map, filter, count_by}
use Rattle.std.specs.Prelude.{Contains}
use Rattle.si_base.specs.Sets.{IsIn}
use Rattle.si_conflicts.specs.declared.crowds.Crowd.{Crowd}
use Rattle.si_conflicts.specs.declared.crowds.Crowded.{Crowded}
use Rattle.si_conflicts.specs.declared.members.Member.{Member}

-- how many of the members have the code
abbrev pub code_count : List Member → ℕ → ℕ
code_count members code = count_by (λ m. code == m.key.code) members

-- the crowd of a member: its code, and how many have it
abbrev pub crowd_of : List Member → Member → Crowd
crowd_of members m = record { code = m.key.code; states = code_count members m.key.code }

-- at least so many members have the code of this one
abbrev pub is_crowded : List Member → ℕ → Member → Bool
is_crowded members least m = not (ltb (code_count members m.key.code) least)

-- those whose code at least so many have, each with its crowd
abbrev pub crowded_of : List Member → ℕ → List Crowded
crowded_of members least =
    map (λ m. record { state = m.state; crowd = crowd_of members m })
    (filter (is_crowded members least) members)

-- the set has a state of the crowd, which so many members are in
pub record HasOfCrowd (members : List Member) (set : List Bool) (crowd : Crowd) : Type 0 where
  pub member : Member
  pub there : Contains members member
  pub inside : IsIn set member.state
  pub is : crowd ≡ crowd_of members member
