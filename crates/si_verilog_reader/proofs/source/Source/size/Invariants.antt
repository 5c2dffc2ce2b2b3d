use Rattle.std.proofs.Common.{◌≡◌, ◌+◌, ◌<◌, ◌^◌, length}
use Rattle.si_verilog_reader.specs.Modules.{size}
use Rattle.si_verilog_reader.proofs.source.Source.size.Given as goal

abbrev pub invariant-loop-placed : goal.invariant-loop-placed
invariant-loop-placed l = (l.size + size l.ahead ≡ size l.self) × (l.size + length l.ahead < 2 ^ 64)

abbrev pub decreases-loop-placed : goal.decreases-loop-placed
decreases-loop-placed l = length l.ahead
