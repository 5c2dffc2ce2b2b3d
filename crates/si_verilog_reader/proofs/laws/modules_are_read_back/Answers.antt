use Rattle.si_verilog_reader.proofs.BackLemmas.{read_back}
use Rattle.si_verilog_reader.proofs.laws.modules_are_read_back.Goals as goal

pub returns : goal.returns
returns c = read_back
