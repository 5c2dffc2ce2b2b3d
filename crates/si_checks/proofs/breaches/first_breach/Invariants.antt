use Rattle.si_base.specs.Proper.{Forks, loss_place}
use Rattle.si_checks.specs.Loops.Searches.{IsFirstOrNone, LosesBelow}
use Rattle.si_checks.proofs.SearchLemmas.{NoneBelow}
use Rattle.si_checks.proofs.breaches.first_breach.Given as goal

abbrev pub invariant-loop-k : goal.invariant-loop-k
invariant-loop-k l = record {
  no_fork : NoneBelow (Forks l.graph) (λ b. b.s) (λ b. b.a) (λ b. b.c) l.k;
  loss : IsFirstOrNone loss_place (LosesBelow l.graph l.k) l.loss;
}
