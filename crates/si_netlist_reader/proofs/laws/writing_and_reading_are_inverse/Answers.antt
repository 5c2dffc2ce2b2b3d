use Rattle.si_netlist_reader.proofs.ReadLaw.{read_is_text}
use Rattle.si_netlist_reader.proofs.WriteLaw.{written_reads, one_netlist}
use Rattle.si_netlist_reader.proofs.laws.writing_and_reading_are_inverse.Goals as goal

pub returns-clause-written : goal.returns-clause-written
returns-clause-written c = written_reads

pub returns-clause-read : goal.returns-clause-read
returns-clause-read c = read_is_text

pub returns-clause-one : goal.returns-clause-one
returns-clause-one c = one_netlist
