use Rattle.si_checks.proofs.ConflictLemmas.{other_key}
use Rattle.si_conflicts.proofs.links.put_first.Goals as goal

pub returns-clause-others : goal.returns-clause-others
returns-clause-others c = λ k apart. c.in_ok-old.ensures.updates.2 k (other_key c.args.code k apart)
