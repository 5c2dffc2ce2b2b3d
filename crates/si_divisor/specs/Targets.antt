-- (field) What an instance, as the gate of a new signal, makes of the states: those where it forces
-- a value, and the target of each state.
use Rattle.std.specs.Prelude.{◌≡◌, ℕ, ◌<◌, ◌&&◌, not, Bool, true, false, List, length}
use Rattle.std.specs.Prelude.{slice_index_or, if◌then◌else◌}
use mathlib.Core.Bool.{beq}
use Rattle.si_base.specs.declared.ids.Event.{Event}
use Rattle.si_base.specs.Graph.{StateGraph, Step}
use Rattle.si_base.specs.Codes.{CodedGraph, code}
use Rattle.si_base.specs.Sets.{IsIn}

-- s is forced to b: the value at its code is b, also where the output is the other value
abbrev pub forced_by : (ℕ → Bool → Bool) → CodedGraph → Bool → ℕ → Bool
forced_by value c b s = beq (value (code c s) (not b)) b

-- forced to 1 in the one set, and to 0 in the other
abbrev pub forced_in : List Bool → List Bool → Bool → ℕ → Bool
forced_in up down b s =
    if b then slice_index_or up s false else slice_index_or down s false

-- neither value is forced
abbrev pub holds : (Bool → ℕ → Bool) → ℕ → Bool
holds forced s = not (forced true s) && not (forced false s)

-- a set of n states meets the rules, and is part of each that does
pub record IsLeast (n : ℕ) (Rules : List Bool → Type 0) (set : List Bool) : Type 0 where
  pub size : length set ≡ n
  pub meets : Rules set
  pub least : (other : List Bool) → length other ≡ n → Rules other
      → (s : ℕ) → IsIn set s → IsIn other s

-- the states forced to b are in the set, and so is each holding state that an arc enters from it
pub record Settles (g : StateGraph) (forced : Bool → ℕ → Bool) (b : Bool) (set : List Bool)
    : Type 0 where
  pub begins : (s : ℕ) → s < g.states → forced b s ≡ true → IsIn set s
  pub goes_on : (s : ℕ) (e : Event) (t : ℕ) → Step g s e t → IsIn set s
      → holds forced t ≡ true → IsIn set t

-- the states that settle at 1, and those that settle at 0
pub record AreSettled (g : StateGraph) (forced : Bool → ℕ → Bool) (ones zeros : List Bool)
    : Type 0 where
  pub at_one : IsLeast g.states (Settles g forced true) ones
  pub at_zero : IsLeast g.states (Settles g forced false) zeros

-- sets of n states: those forced to 1 and those forced to 0
pub record AreForced (forced : Bool → ℕ → Bool) (n : ℕ) (up down : List Bool) : Type 0 where
  pub up_size : length up ≡ n
  pub down_size : length down ≡ n
  pub up_is : (s : ℕ) → s < n → slice_index_or up s false ≡ forced true s
  pub down_is : (s : ℕ) → s < n → slice_index_or down s false ≡ forced false s

-- s settles at neither value
pub record IsUnforced (g : StateGraph) (ones zeros : List Bool) (s : ℕ) : Type 0 where
  pub within : s < g.states
  pub not_one : IsIn ones s → ⊥
  pub not_zero : IsIn zeros s → ⊥

-- s settles at both
pub record SettlesAtBoth (ones zeros : List Bool) (s : ℕ) : Type 0 where
  pub one : IsIn ones s
  pub zero : IsIn zeros s

-- each state settles at just one value
pub record HaveTargets (g : StateGraph) (ones zeros : List Bool) : Type 0 where
  pub some : (s : ℕ) → IsUnforced g ones zeros s → ⊥
  pub one : (s : ℕ) → SettlesAtBoth ones zeros s → ⊥

-- then its target is 1 where it settles at 1
abbrev pub target : List Bool → ℕ → Bool
target ones s = slice_index_or ones s false
