use Rattle.si_divisor.proofs.DivisorsExist.{some_divisors, some_pins}
use Rattle.si_divisor.proofs.divisor_laws.divisors_exist.Goals as goal

pub returns-clause-pins : goal.returns-clause-pins
returns-clause-pins _ = some_pins

pub returns-clause-divisors : goal.returns-clause-divisors
returns-clause-divisors _ = some_divisors
