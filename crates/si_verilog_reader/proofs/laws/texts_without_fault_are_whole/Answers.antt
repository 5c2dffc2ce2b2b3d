use Rattle.si_verilog_reader.proofs.WholeLemmas.{text_whole}
use Rattle.si_verilog_reader.proofs.laws.texts_without_fault_are_whole.Goals as goal

pub returns : goal.returns
returns c = text_whole
