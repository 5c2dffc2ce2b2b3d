use Rattle.std.proofs.Common.{◌≡◌, ◌+◌, ◌<◌, ◌^◌, length}
use Rattle.si_verilog_reader.specs.Modules.{modules}
use Rattle.si_verilog_reader.proofs.source.Source.modules.Given as goal

abbrev pub invariant-loop-placed : goal.invariant-loop-placed
invariant-loop-placed l = (l.modules + modules l.ahead ≡ modules l.self) × (l.modules + length l.ahead < 2 ^ 64)

abbrev pub decreases-loop-placed : goal.decreases-loop-placed
decreases-loop-placed l = length l.ahead
