use Rattle.std.proofs.Common.{◌≡◌, length}
use Rattle.si_verilog_reader.specs.Loops.Held.{ports_now}
use Rattle.si_verilog_reader.specs.Loops.Names.{AreGood, fault_by}
use Rattle.si_verilog_reader.specs.Modules.{no_ports, port_at}
use Rattle.si_verilog_reader.specs.Parts.{all_parts, list_at, part_of_list}
use Rattle.si_verilog_reader.proofs.heads.read_list.Given as goal

abbrev pub invariant-loop-ports : goal.invariant-loop-ports
invariant-loop-ports l = record {
  ports : all_parts (part_of_list (port_at (fault_by l.rule))) (ports_now l.ports) l.source
      ≡ list_at (port_at (fault_by l.rule)) no_ports l.fn.source;
  good : AreGood l.rule (ports_now l.ports);
}

abbrev pub decreases-loop-ports : goal.decreases-loop-ports
decreases-loop-ports l = length l.source
