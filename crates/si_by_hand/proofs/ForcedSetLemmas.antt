-- A set of forced states, told one state after another.
use Rattle.std.proofs.Common.{◌≡◌, ℕ, ◌<◌, ◌≤◌, Bool, true, false, List, length, get_or}
use Rattle.si_divisor.specs.Targets.{AreForced}
use Rattle.si_by_hand.specs.Loops.ForcedSets.{IsForcedSet}

-- the set tells of the first n states, and has no other
pub record IsToldTo (forced : ℕ → Bool) (states n : ℕ) (xs : List Bool) : Type 0 where
  pub size : length xs ≡ states
  pub told : (s : ℕ) → s < n → get_or xs s false ≡ forced s
  pub later : (s : ℕ) → n ≤ s → s < states → get_or xs s false ≡ false

-- both sets
pub are_forced : (forced : Bool → ℕ → Bool) (states : ℕ) (up down : List Bool) → IsForcedSet (forced true) states up
    → IsForcedSet (forced false) states down → AreForced forced states up down
are_forced forced states up down rises falls =
    record { up_size = rises.size; down_size = falls.size; up_is = rises.each; down_is = falls.each }
