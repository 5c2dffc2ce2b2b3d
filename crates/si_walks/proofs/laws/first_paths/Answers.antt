use Rattle.si_walks.proofs.FirstPaths.{one_way_to, some_way_to, way_is_first_walk}
use Rattle.si_walks.proofs.laws.first_paths.Goals as goal

pub returns-clause-unique : goal.returns-clause-unique
returns-clause-unique c = one_way_to

pub returns-clause-exist : goal.returns-clause-exist
returns-clause-exist c = some_way_to

pub returns-clause-walks : goal.returns-clause-walks
returns-clause-walks c = way_is_first_walk
