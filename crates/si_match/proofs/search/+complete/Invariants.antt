use Rattle.std.proofs.Common.{◌≡◌, ◌<◌, ◌-◌, All}
use Rattle.si_match.specs.Loops.Search.{first_completion}
use Rattle.si_match.proofs.SearchLemmas.{from_place}
use Rattle.si_match.proofs.search.+complete.Given as goal

abbrev pub decreases-complete : goal.decreases-complete
decreases-complete l = l.more

abbrev pub invariant-loop-place : goal.invariant-loop-place
invariant-loop-place l = record {
  told : from_place l.allowed l.coded l.z l.cell l.fn.literals.items (l.more - 1) l.place
      ≡ first_completion l.allowed l.coded l.z l.cell l.fn.literals.items l.more;
  kept : l.literals.items ≡ l.fn.literals.items;
  within : All (λ s. s < l.coded.graph.states) l.witnesses.items;
}
