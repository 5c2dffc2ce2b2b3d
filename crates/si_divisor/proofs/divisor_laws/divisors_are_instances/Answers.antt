use Rattle.si_divisor.proofs.DivisorChoices.{choices_are_all, are_instances, are_all, are_few}
use Rattle.si_divisor.proofs.divisor_laws.divisors_are_instances.Goals as goal

pub returns : goal.returns
returns c = record { choices = choices_are_all; instances = are_instances; all = are_all; few = are_few }
