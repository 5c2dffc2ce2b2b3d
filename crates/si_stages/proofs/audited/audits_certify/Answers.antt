use Rattle.si_stages.proofs.AuditLemmas.{certified_output, output_certified}
use Rattle.si_stages.proofs.audited.audits_certify.Goals as goal

pub returns : goal.returns
returns c = λ g a n b output. (output_certified g a n b output, certified_output g a n b output)
