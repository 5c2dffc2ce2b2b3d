use Rattle.std.proofs.Common.{◌≡◌, [], length, map}
use Rattle.si_verilog_reader.specs.Loops.Held.{connection_now, ports_now}
use Rattle.si_verilog_reader.specs.Modules.{all_ports, connection_at}
use Rattle.si_verilog_reader.specs.Parts.{all_parts, list_at, part_of_list}
use Rattle.si_verilog_reader.proofs.connections.read_list.Given as goal

abbrev pub invariant-loop-connections : goal.invariant-loop-connections
invariant-loop-connections l =
    all_parts (part_of_list (connection_at (all_ports (ports_now l.ports))))
    (map connection_now l.connections.items) l.source
    ≡ list_at (connection_at (all_ports (ports_now l.ports))) [] l.fn.source

abbrev pub decreases-loop-connections : goal.decreases-loop-connections
decreases-loop-connections l = length l.source
