use Rattle.si_works.proofs.AuditedLemmas.{audited_one, audited_some}
use Rattle.si_works.proofs.audited_laws.audited_parts_are_one.Goals as goal

pub returns-clause-some : goal.returns-clause-some
returns-clause-some c = audited_some

pub returns-clause-one : goal.returns-clause-one
returns-clause-one c = audited_one
