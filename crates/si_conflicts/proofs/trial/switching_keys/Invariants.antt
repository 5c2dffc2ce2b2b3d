use Rattle.std.proofs.Common.{◌≡◌, ℕ, ◌≤◌, length, take}
use Rattle.si_conflicts.specs.Loops.Apart as Apart
use Rattle.si_conflicts.specs.Loops.Apart.{AllStaying}
use Rattle.si_conflicts.proofs.trial.switching_keys.Given as goal

abbrev pub invariant-loop-m : goal.invariant-loop-m
invariant-loop-m l = record {
  keys : (staying : ℕ → ℕ) → AllStaying l.graph l.classes staying
      → l.keys.items ≡ Apart.switching_keys l.classes staying l.value (take l.m-index l.members);
  few : length l.keys.items ≤ l.m-index;
}
