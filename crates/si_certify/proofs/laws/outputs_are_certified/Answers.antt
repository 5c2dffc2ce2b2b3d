use Rattle.si_certify.proofs.CertifyLemmas.{audited_come_back, certified_texts_pass, fitting_are_written}
use Rattle.si_certify.proofs.laws.outputs_are_certified.Goals as goal

pub returns : goal.returns
returns c = record { pass = certified_texts_pass; written = fitting_are_written; same = audited_come_back }
