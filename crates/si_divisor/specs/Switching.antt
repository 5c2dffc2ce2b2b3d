-- (field) The states where the new signal switches to b.
use Rattle.std.specs.Prelude.{◌≡◌, ℕ, ◌⊎◌, not, Bool, List}
use Rattle.si_base.specs.declared.ids.Event.{Event}
use Rattle.si_base.specs.Graph.{StateGraph, Step}
use Rattle.si_base.specs.Sets.{IsIn}
use Rattle.si_insert.specs.Accepted.{IsInput}
use Rattle.si_insert.specs.Diamond.{Diamond}

-- what is in the set, the targets of the states being given:
-- a state of target b that is entered from one of the other target;
-- a predecessor of target b of a member;
-- what an input leads to from a member;
-- in a diamond whose u is a member, w, if s has the other target or s and t are members
pub record Switches (g : StateGraph) (target : ℕ → Bool) (b : Bool) (set : List Bool)
    : Type 0 where
  pub entered : (s : ℕ) (e : Event) (t : ℕ) → Step g s e t → target s ≡ not b → target t ≡ b
      → IsIn set t
  pub before : (s : ℕ) (e : Event) (t : ℕ) → Step g s e t → IsIn set t → target s ≡ b
      → IsIn set s
  pub inputs : (s : ℕ) (e : Event) (t : ℕ) → Step g s e t → IsInput g.signals e.sig
      → IsIn set s → IsIn set t
  pub exits : (s : ℕ) (a c : Event) (t u w : ℕ) → Diamond g s a c t u w → IsIn set u
      → (target s ≡ not b) ⊎ (IsIn set s × IsIn set t) → IsIn set w
