-- Members as they are counted: each by its state, and by how its key follows the one before.
use Rattle.std.specs.Prelude.{◌≡◌, ◌≤◌, ◌==◌, Bool, true, false, List, [], ◌∷◌, length}
use Rattle.std.specs.Prelude.{if◌then◌else◌}
use Rattle.std.specs.List.Sorted.{IsSorted}
use Rattle.si_base.specs.Limits.{max_states}
use Rattle.si_conflicts.specs.declared.keys.Key.{Key}
use Rattle.si_conflicts.specs.declared.members.Member.{Member}
use Rattle.si_conflicts.specs.declared.turns.Change.{Change}
use Rattle.si_conflicts.specs.declared.turns.Change.TheVariants.{SameKey, NewKey, NewCode}
use Rattle.si_conflicts.specs.declared.turns.Turn.{Turn}
use Rattle.si_conflicts.specs.Loops.Keys.{no_key}
use Rattle.si_conflicts.specs.Loops.Chains.{member_cmp}

-- how the second key differs from the first
abbrev pub change_between : Key → Key → Change
change_between x y =
    if x.code == y.code then (if x.excited == y.excited then SameKey else NewKey) else NewCode

abbrev pub keeps_code : Change → Bool
keeps_code NewCode = false
keeps_code c = true

abbrev pub keeps_key : Change → Bool
keeps_key SameKey = true
keeps_key c = false

-- the members as they are counted after a key
abbrev pub turns_after : Key → List Member → List Turn
turns_after key [] = []
turns_after key (m ∷ ms) =
    record { state = m.state; change = change_between key m.key } ∷ turns_after m.key ms

-- the turns are those of the members, which stand in order
pub record AreTurns (members : List Member) (turns : List Turn) : Type 0 where
  pub sorted : IsSorted member_cmp members
  pub turns_are : turns ≡ turns_after no_key members

-- they are those of some members, and of no more than there are states
pub record HaveMembers (turns : List Turn) : Type 0 where
  pub members : List Member
  pub few : length members ≤ max_states
  pub are : AreTurns members turns
