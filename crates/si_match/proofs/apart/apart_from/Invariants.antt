use Rattle.std.proofs.Common.{◌≡◌, ℕ, ◌<◌, All}
use Rattle.si_match.specs.Loops.Apart.{AreAlike}
use Rattle.si_match.proofs.apart.apart_from.Given as goal

abbrev pub invariant-loop-other : goal.invariant-loop-other
invariant-loop-other l = record {
  alike : (t : ℕ) → t < l.other → AreAlike l.coded l.z l.read l.fn.one t;
  same : l.one ≡ l.fn.one;
  within : All (λ t. t < l.coded.graph.states) l.witnesses.items;
}
