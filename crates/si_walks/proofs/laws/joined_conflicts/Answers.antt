use Rattle.si_walks.proofs.Joined.{joined_stays, kept_joined_stays, never_resolved, walk_joins}
use Rattle.si_walks.proofs.laws.joined_conflicts.Goals as goal

pub returns-clause-walk : goal.returns-clause-walk
returns-clause-walk c = walk_joins

pub returns-clause-stays : goal.returns-clause-stays
returns-clause-stays c = joined_stays

pub returns-clause-kept : goal.returns-clause-kept
returns-clause-kept c = kept_joined_stays

pub returns-clause-never_resolved : goal.returns-clause-never_resolved
returns-clause-never_resolved c = never_resolved
