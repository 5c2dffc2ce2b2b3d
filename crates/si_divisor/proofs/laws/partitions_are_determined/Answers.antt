use Rattle.si_divisor.proofs.OnePartitionFor.{one_partition, reasons_are_unique, reasons_exclude}
use Rattle.si_divisor.proofs.PartitionExists.{partitions_exist}
use Rattle.si_divisor.proofs.laws.partitions_are_determined.Goals as goal

pub returns-clause-partition : goal.returns-clause-partition
returns-clause-partition c = one_partition

pub returns-clause-reason : goal.returns-clause-reason
returns-clause-reason c = reasons_are_unique

pub returns-clause-exclude : goal.returns-clause-exclude
returns-clause-exclude c = reasons_exclude

pub returns-clause-exist : goal.returns-clause-exist
returns-clause-exist c = partitions_exist
