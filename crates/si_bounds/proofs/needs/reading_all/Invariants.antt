use Rattle.std.proofs.Common.{ℕ, ◌<◌, ◌+◌, ◌⊎◌, Contains}
use Rattle.si_bounds.specs.Loops.Points.{IsBlind}
use Rattle.si_bounds.proofs.needs.reading_all.Given as goal

abbrev pub invariant-loop-k : goal.invariant-loop-k
invariant-loop-k l = record {
  within : (t : ℕ) → Contains l.read.items t → Contains l.tables t;
  others : (t : ℕ) → Contains l.tables t → Contains l.read.items t ⊎ ((j : ℕ) × (j < l.k) × IsBlind t (j + 1));
}
