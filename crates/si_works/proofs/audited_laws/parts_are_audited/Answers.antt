use Rattle.si_works.proofs.AuditedLemmas as lemmas
use Rattle.si_works.proofs.audited_laws.parts_are_audited.Goals as goal

pub returns : goal.returns
returns c = lemmas.parts_are_audited
