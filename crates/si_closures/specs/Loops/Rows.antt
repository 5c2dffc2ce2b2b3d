-- Sets as rows of flags, in blocks of 128 rows: a block has the flags of 128 states, and a row of it
-- those of one set.
use Rattle.std.specs.Prelude.{◌≡◌, ℕ, ◌+◌, ◌*◌, ◌/◌, ◌%◌, ◌^◌, ◌<◌, ◌≤◌, Bool, false, List, length}
use Rattle.std.specs.Prelude.{map}
use Rattle.std.specs.List.{range_with_len}
use Rattle.si_closures.specs.Loops.Turned.{cell}

-- the flag of the state s in the set k
abbrev pub flag_in : List ℕ → ℕ → ℕ → Bool
flag_in rows k s = cell rows (128 * (s / 128) + k) (s % 128)

-- rows of 128 sets of so many states
pub record FlagRows : Type 0 where
  pub states : ℕ
  pub rows : List ℕ

-- the set k
abbrev pub set_in : FlagRows → ℕ → List Bool
set_in r k = map (λ s. flag_in r.rows k s) (range_with_len 0 r.states)

-- rows with the flags of so many states, and of no more
pub record AreRows (states : ℕ) (rows : List ℕ) : Type 0 where
  pub few : states < 2 ^ 32
  pub size : length rows ≡ 128 * ((states + 127) / 128)
  pub none : (k s : ℕ) → k < 128 → states ≤ s → flag_in rows k s ≡ false

-- each block is turned: what was the flag of a state in a set is the bit of the set in the row of
-- the state
pub record AreTurned (old new : List ℕ) : Type 0 where
  pub size : length new ≡ length old
  pub each : (s k : ℕ) → k < 128 → cell new s k ≡ flag_in old k s
