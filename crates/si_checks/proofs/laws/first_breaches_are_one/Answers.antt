use Rattle.si_checks.proofs.UniqueBreaches.{one_fork, one_loss, one_split, one_without_values}
use Rattle.si_checks.proofs.laws.first_breaches_are_one.Goals as goal

pub returns : goal.returns
returns c g = record {
  splits = one_split g;
  without_values = one_without_values g;
  forks = λ deterministic a b. one_fork g a b deterministic;
  losses = one_loss g;
}
