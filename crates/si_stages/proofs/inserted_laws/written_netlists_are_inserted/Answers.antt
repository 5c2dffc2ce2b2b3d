use Rattle.si_stages.proofs.AuditLaws.{mapped_inserted, synthesised_inserted}
use Rattle.si_stages.proofs.inserted_laws.written_netlists_are_inserted.Goals as goal

pub returns : goal.returns
returns c = record { synthesised = synthesised_inserted; mapped = mapped_inserted }
