-- Codes of given signals with those of hidden ones behind them.
use Rattle.std.proofs.Common.{◌≡◌, ℕ, ◌+◌, ◌*◌, ◌%◌, ◌<◌, ◌≤◌, ◌^◌, bit_or, refl, arith}
use Rattle.std.proofs.lemmas.Nat.{or_shifted, pow-add, shl_whole}
use Rattle.std.proofs.lemmas.Nat.Bits.{bit_at_cat_low}
use Rattle.si_base.specs.Bits.{bit}

-- both codes fit into that of all signals
pub both_fit : (start given hidden values : ℕ) → start < 2 ^ given → values < 2 ^ hidden
    → values * 2 ^ given + start < 2 ^ (hidden + given)
both_fit start given hidden values one other = rw (pow-add 2 hidden given) (grind arith)

-- what a shift makes
pub shifted : (start given hidden values : ℕ) → given + hidden ≤ 128 → start < 2 ^ given → values < 2 ^ hidden
    → bit_or ((values * 2 ^ given) % 2 ^ 128) start ≡ values * 2 ^ given + start
shifted start given hidden values few one other =
    rw (shl_whole values hidden given 128 other (omega arith)) (or_shifted values given start one)

-- the given signals keep their values
pub given_stay : (start given values a : ℕ) → a < given → bit (values * 2 ^ given + start) a ≡ bit start a
given_stay start given values a below = rw (bit_at_cat_low values given start a below) refl
