use Rattle.si_verilog_reader.proofs.reader.read_circuit.Goals as goal

pub read_items-requires : goal.read_items-requires
read_items-requires c = c.in_ok-circuit.ensures.counted

pub read_end-requires : goal.read_end-requires
read_end-requires c = c.in_ok-circuit-2.ensures.counted
