use Rattle.si_conflicts.proofs.ConflictsExist.{some_conflicts, some_count, some_first}
use Rattle.si_conflicts.proofs.laws.conflicts_exist.Goals as goal

pub returns-clause-list : goal.returns-clause-list
returns-clause-list c = some_conflicts

pub returns-clause-count : goal.returns-clause-count
returns-clause-count c = some_count

pub returns-clause-first_list : goal.returns-clause-first_list
returns-clause-first_list c = some_first
