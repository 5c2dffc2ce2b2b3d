use Rattle.std.proofs.Common.{◌≡◌, ◌≤◌, ℕ, ◌<◌, length}
use Rattle.si_conflicts.specs.Loops.Links.{HasNextClash}
use Rattle.si_conflicts.proofs.links.next_clashes.Given as goal

abbrev pub invariant-loop-k : goal.invariant-loop-k
invariant-loop-k l = record {
  size : length l.next.items ≡ l.coded.graph.states;
  links : (j : ℕ) → l.k ≤ j → j < l.coded.graph.states → HasNextClash l.coded l.next.items j;
}
