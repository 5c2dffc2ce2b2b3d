use Rattle.si_genlib.proofs.WrittenLaw.{text_reads_back}
use Rattle.si_genlib.proofs.written_laws.libraries_read_back.Goals as goal

pub returns : goal.returns
returns c = text_reads_back
