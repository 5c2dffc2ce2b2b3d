use Rattle.std.proofs.Common.{arith}
use Rattle.si_verilog_reader.proofs.PlacedLemmas.{placed_few}
use Rattle.si_verilog_reader.proofs.source.Source.copy.Goals as goal

-- no more symbols than bytes
pub returns-clause-few : goal.returns-clause-few
returns-clause-few c =
    omega (arith, placed_few c.self.inside.line c.self.inside.here.now, c.self.invariant)
