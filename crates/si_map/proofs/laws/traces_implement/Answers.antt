use Rattle.si_map.proofs.TraceLemmas.{traces_are_lineages, traces_implement}
use Rattle.si_map.proofs.laws.traces_implement.Goals as goal

pub returns-clause-lineages : goal.returns-clause-lineages
returns-clause-lineages c = traces_are_lineages

pub returns-clause-implement : goal.returns-clause-implement
returns-clause-implement c = traces_implement
