use Rattle.si_divisor.proofs.DivisorsExist.{some_divisors}
use Rattle.si_divisor.proofs.PartitionExists.{partitions_exist}
use Rattle.si_map.proofs.EndsExist as proved
use Rattle.si_map.proofs.ends.mapping_ends.Goals as goal

pub returns : goal.returns
returns c = proved.mapping_ends some_divisors partitions_exist
