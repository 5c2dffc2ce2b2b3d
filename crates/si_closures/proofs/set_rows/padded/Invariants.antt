use Rattle.std.proofs.Common.{◌≡◌, ◌≤◌, ℕ, length}
use Rattle.si_closures.specs.Loops.Turned.{row}
use Rattle.si_closures.proofs.set_rows.padded.Given as goal

abbrev pub invariant-loop : goal.invariant-loop
invariant-loop l = record {
  size : length l.rows.items ≡ l.counter;
  room : length l.words ≤ l.counter;
  same : (s : ℕ) → row l.rows.items s ≡ row l.words s;
}
