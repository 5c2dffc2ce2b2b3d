-- (law) What holds of each graph: it is proper, or has a first breach, and that is one.
use Rattle.std.specs.Prelude.{◌≡◌, ℕ}
use Rattle.si_base.specs.Graph.{StateGraph}
use Rattle.si_base.specs.Order.{IsFirst}
use Rattle.si_base.specs.Codes.{IsConsistent, IsDeterministic}
use Rattle.si_base.specs.Proper.{IsProper, IsCommutative, Split, Splits, split_place, Fork, Forks}
use Rattle.si_base.specs.Proper.{fork_place, Loss, Loses, loss_place, IsFirstWithoutValues}

-- a graph is proper, or the first of the four properties that it lacks has a first breach
pub data ProperOrBreach (g : StateGraph) : Type 0 where
  AllHold : IsProper g → ProperOrBreach g
  HasSplit : (b : Split) → IsFirst split_place (Splits g) b → ProperOrBreach g
  HasNoValues : IsDeterministic g → (a : ℕ) → IsFirstWithoutValues g a → ProperOrBreach g
  HasFork : IsDeterministic g → IsConsistent g
      → (b : Fork) → IsFirst fork_place (Forks g) b → ProperOrBreach g
  HasLoss : IsDeterministic g → IsConsistent g → IsCommutative g
      → (b : Loss) → IsFirst loss_place (Loses g) b → ProperOrBreach g

-- no two differ of which P holds
abbrev pub IsOfOne : {X : Type 0} → (X → Type 0) → Type 0
IsOfOne {X} P = (a b : X) → P a → P b → a ≡ b

-- of each kind no more than one breach is the first
pub record FirstBreachesAreOne (g : StateGraph) : Type 0 where
  pub splits : IsOfOne (IsFirst split_place (Splits g))
  pub without_values : IsOfOne (IsFirstWithoutValues g)
  pub forks : IsDeterministic g → IsOfOne (IsFirst fork_place (Forks g))
  pub losses : IsOfOne (IsFirst loss_place (Loses g))
