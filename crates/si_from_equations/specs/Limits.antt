-- (field) The limits of sums that are multiplied out. The code has them under the same words, in
-- `src/limits.rt`.
use Rattle.std.specs.Prelude.{ℕ}

-- the most cubes of a sum
abbrev pub max_cubes : ℕ
max_cubes = 65536

-- the most pairs of cubes, one of each of two sums, of which the products are taken
abbrev pub max_pairs : ℕ
max_pairs = 1024
