use Rattle.std.proofs.Common.{◌≡◌, ℕ, ◌≤◌, length, take}
use Rattle.si_conflicts.specs.Loops.Own as Own
use Rattle.si_conflicts.specs.Loops.Own.{AllStayingIn}
use Rattle.si_conflicts.proofs.own.own_keys.Given as goal

abbrev pub invariant-loop-m : goal.invariant-loop-m
invariant-loop-m l = record {
  keys : (staying : ℕ → ℕ) → AllStayingIn l.graph l.set staying
      → l.keys.items ≡ Own.own_keys l.set staying (take l.m-index l.members);
  few : length l.keys.items ≤ l.m-index;
}
