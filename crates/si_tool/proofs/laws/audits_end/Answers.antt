use Rattle.si_stages.proofs.AuditLemmas.{audit_ends}
use Rattle.si_tool.proofs.laws.audits_end.Goals as goal

pub returns : goal.returns
returns c = audit_ends
