use Rattle.si_stages.proofs.AuditLaws.{mapped_pass, synthesised_pass}
use Rattle.si_stages.proofs.audit_laws.written_netlists_pass.Goals as goal

pub returns : goal.returns
returns c = record { synthesised = synthesised_pass; mapped = mapped_pass }
