-- Sets of states as lists of truth values, and least sets.
use Rattle.std.proofs.Common.{◌≡◌, ℕ, ◌<◌, ◌⊎◌, Bool, true, false, List, slice_index_or}
use Rattle.std.proofs.Common.{refl, sym, ◌∙◌, arith, inl, inr}
use Rattle.si_base.specs.Sets.{IsIn}
use Rattle.si_graph.proofs.SearchLemmas.{in_below}
use Rattle.si_closures.proofs.SameStates.{same_states}
use Rattle.si_divisor.specs.Targets.{IsLeast}

-- there is one least set
pub one_least : (n : ℕ) (R : List Bool → Type 0) (x y : List Bool) → IsLeast n R x → IsLeast n R y → x ≡ y
one_least n R x y a b = same_states x y (a.size ∙ sym b.size) (a.least y b.size b.meets) (b.least x a.size a.meets)

pub least_within : (n : ℕ) (R : List Bool → Type 0) (x : List Bool) (s : ℕ) → IsLeast n R x → IsIn x s → s < n
least_within n R x s a there = let k = in_below x s there in omega (arith, a.size)

-- a truth value is one of the two
pub in_or_not : (xs : List Bool) (s : ℕ) → IsIn xs s ⊎ (slice_index_or xs s false ≡ false)
in_or_not xs s = cases (slice_index_or xs s false)
  where
    cases : (b : Bool) → (b ≡ true) ⊎ (b ≡ false)
    cases true = inl refl
    cases false = inr refl
