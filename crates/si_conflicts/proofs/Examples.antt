-- Keys at work: of four states with one code, two enable the same non-input events, so that five of the six pairs
-- clash. And a trial insertion at work.
use Rattle.std.proofs.Common.{◌≡◌, ◌==◌, ℕ, List, true, false, cond, [], ◌∷◌, ◌++◌, map, refl}
use Rattle.si_insert.specs.declared.partition.Class.{Class}
use Rattle.si_insert.specs.declared.partition.Class.TheVariants.{Low, Rising, High, Falling}
use Rattle.si_conflicts.specs.declared.keys.Key.{Key}
use Rattle.si_conflicts.specs.declared.members.Member.{Member}
use Rattle.si_conflicts.specs.Loops.Own.{own_keys}
use Rattle.si_conflicts.specs.declared.turns.Change.TheVariants.{SameKey, NewKey, NewCode}
use Rattle.si_conflicts.specs.Loops.Keys.{clashes, clash_count, no_key}
use Rattle.si_conflicts.specs.Loops.Turns.{turns_after}
use Rattle.si_conflicts.specs.Loops.Apart.{stable_count, pair_sum, switching_count}
use Rattle.si_conflicts.specs.Loops.Crowds.{code_count, crowded_of}

abbrev key : ℕ → ℕ → Key
key code excited = record { code = code; excited = excited }

same_events : clashes (key 5 2) (key 5 2) ≡ false
same_events = refl

other_code : clashes (key 5 2) (key 4 3) ≡ false
other_code = refl

five : clash_count (key 5 0 ∷ key 5 2 ∷ key 4 3 ∷ key 5 3 ∷ key 5 2 ∷ []) ≡ 5
five = refl

-- An output z that switches once for every two pulses of the input a. The states 0 and 2 have one code, and so have 3
-- and 5; z is excited at 2 and 5 alone.
members : List Member
members =
    record { key = key 0 0; state = 0 }
    ∷ record { key = key 0 2; state = 2 }
    ∷ record { key = key 2 0; state = 3 }
    ∷ record { key = key 2 2; state = 5 }
    ∷ []

-- the first code is none but 0, as where there is no key before it
each_in_turn : turns_after no_key members
    ≡ record { state = 0; change = SameKey }
    ∷ record { state = 2; change = NewKey }
    ∷ record { state = 3; change = NewCode }
    ∷ record { state = 5; change = NewKey }
    ∷ []
unfolding members
each_in_turn = refl

-- the new signal rises at 2 and falls at 5: with z it is excited there, and not at 0 and at 3
classes : List Class
classes = Low ∷ Low ∷ Rising ∷ High ∷ High ∷ Falling ∷ []

two_are_told : pair_sum (stable_count classes) members ≡ 2
unfolding members classes
two_are_told = refl

none_is_left_over : switching_count classes (λ s. 0) members ≡ 0
unfolding members classes
none_is_left_over = refl

-- a Low and a High state of one code have no copies at one value
low_by_high : stable_count (Low ∷ High ∷ []) (record { key = key 4 1; state = 0 })
    (record { key = key 4 2; state = 1 }) ≡ 0
low_by_high = refl

-- three states of one code that enable the same: one Rising, one Falling and one Low leave three conflicts
alike : List Member
alike =
    record { key = key 4 1; state = 0 }
    ∷ record { key = key 4 1; state = 1 }
    ∷ record { key = key 4 1; state = 2 }
    ∷ []

as_many_as_alike : pair_sum (stable_count (Rising ∷ Falling ∷ Low ∷ [])) alike ≡ code_count alike 4
unfolding alike
as_many_as_alike = refl

-- of these a set has the states 0 and 1. The signal 1 leads from 0 to a state of the set, and from 1 to none.
one_of_its_own : clash_count (own_keys (true ∷ true ∷ false ∷ []) (λ s. cond (s == 0) 2 0) alike) ≡ 1
unfolding alike
one_of_its_own = refl

two_more : List Member
two_more = record { key = key 5 0; state = 3 } ∷ record { key = key 5 2; state = 4 } ∷ []

-- of a code that three states have and one that two have, the three alone are told
three_crowded : map (λ x. x.state) (crowded_of (alike ++ two_more) 3) ≡ 0 ∷ 1 ∷ 2 ∷ []
unfolding alike two_more
three_crowded = refl
