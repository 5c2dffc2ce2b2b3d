use Rattle.std.proofs.Common.{◌≡◌, ◌<◌, All}
use Rattle.si_match.specs.Fit.{first_fit}
use Rattle.si_match.proofs.SearchLemmas.{from_cell}
use Rattle.si_match.proofs.fit.first_fitting.Given as goal

abbrev pub invariant-loop-k : goal.invariant-loop-k
invariant-loop-k l = record {
  told : from_cell l.coded l.z l.library l.k ≡ first_fit l.coded l.library l.z;
  within : All (λ s. s < l.coded.graph.states) l.witnesses.items;
}
