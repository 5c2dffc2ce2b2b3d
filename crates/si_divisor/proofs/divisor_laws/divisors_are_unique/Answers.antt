use Rattle.si_divisor.proofs.DivisorsExist.{one_divisors}
use Rattle.si_divisor.proofs.PinLemmas.{one_list}
use Rattle.si_divisor.proofs.divisor_laws.divisors_are_unique.Goals as goal

pub returns-clause-pins : goal.returns-clause-pins
returns-clause-pins _ = one_list

pub returns-clause-divisors : goal.returns-clause-divisors
returns-clause-divisors _ = one_divisors
