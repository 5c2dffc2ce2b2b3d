use Rattle.std.proofs.Common.{◌≡◌, drop, map}
use Rattle.si_verilog_reader.specs.Modules.{net_of}
use Rattle.si_verilog_reader.specs.Loops.Held.{connection_now}
use Rattle.si_verilog_reader.proofs.instance.net_of.Given as goal

abbrev pub invariant-loop-connection : goal.invariant-loop-connection
invariant-loop-connection l = net_of (map connection_now (drop l.connection-index l.connections)) l.port
    ≡ net_of (map connection_now l.connections) l.port
