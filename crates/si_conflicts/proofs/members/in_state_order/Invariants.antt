use Rattle.std.proofs.Common.{◌≡◌, ◌<◌, ◌≤◌, All, map}
use Rattle.si_conflicts.specs.Loops.Chains.{with_equals}
use Rattle.si_conflicts.specs.Loops.Keys.{IsKey}
use Rattle.si_conflicts.proofs.members.in_state_order.Given as goal

abbrev pub invariant-loop-k : goal.invariant-loop-k
invariant-loop-k l = record {
  most : l.k ≤ l.coded.graph.states;
  states : map (λ m. m.state) l.members.items ≡ with_equals l.next l.k;
  within : All (λ m. m.state < l.coded.graph.states) l.members.items;
  keys : All (λ m. IsKey l.coded m.state m.key) l.members.items;
}
