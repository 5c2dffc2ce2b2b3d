use Rattle.si_regions.proofs.RegionsExist.{some_regions}
use Rattle.si_regions.proofs.laws.regions_exist.Goals as goal

pub returns : goal.returns
returns c = some_regions
