use Rattle.si_read_back.proofs.StructureReading.{read_back}
use Rattle.si_read_back.proofs.laws.structures_are_read_back.Goals as goal

pub returns : goal.returns
returns c = read_back
