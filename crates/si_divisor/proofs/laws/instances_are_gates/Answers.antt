use Rattle.si_divisor.proofs.InstanceLaws.{instances_are_unate, new_signal_fits}
use Rattle.si_divisor.proofs.PartitionLemmas.{fits}
use Rattle.si_divisor.proofs.laws.instances_are_gates.Goals as goal

pub returns-clause-unate : goal.returns-clause-unate
returns-clause-unate c = instances_are_unate

pub returns-clause-values : goal.returns-clause-values
returns-clause-values c = fits

pub returns-clause-fits : goal.returns-clause-fits
returns-clause-fits c = new_signal_fits
