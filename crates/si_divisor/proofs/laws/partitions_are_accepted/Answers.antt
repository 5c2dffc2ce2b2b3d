use Rattle.si_divisor.proofs.SwitchingRules.{rules_are_acceptance}
use Rattle.si_divisor.proofs.PartitionLemmas.{lawful, accepted, least}
use Rattle.si_divisor.proofs.laws.partitions_are_accepted.Goals as goal

pub returns-clause-rules : goal.returns-clause-rules
returns-clause-rules c = rules_are_acceptance

pub returns-clause-lawful : goal.returns-clause-lawful
returns-clause-lawful c = lawful

pub returns-clause-accepted : goal.returns-clause-accepted
returns-clause-accepted c = accepted

pub returns-clause-least : goal.returns-clause-least
returns-clause-least c = least
