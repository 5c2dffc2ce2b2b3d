use Rattle.std.proofs.Common.{arith, ◌+◌, ◌*◌, ◌^◌, ◌<◌}
use Rattle.std.proofs.Math.Facts.{Fits-of_lt}
use Rattle.si_base.specs.Limits.{code_width}
use Rattle.si_netlist_reader.proofs.RowLoopLemmas.{doubled_fits, bit_small}
use Rattle.si_netlist_reader.proofs.header.code_of.Goals as goal

pub overflow_mul-code : goal.overflow_mul-code
overflow_mul-code c =
    let fits : 0 + 2 * c.loop-i.code < 2 ^ code_width =
    doubled_fits c.loop-i.code c.loop-i.i code_width 0 c.loop-i.invariant.small
    (omega (arith, c.loop-i-test.true, c.requires)) (omega arith) in
    Fits-of_lt (omega (arith, fits))

pub overflow_add-code : goal.overflow_add-code
overflow_add-code c =
    let bit : c.from-bit.result < 2 = rw c.from-bit.ensures (bit_small _) in
    Fits-of_lt (doubled_fits c.loop-i.code c.loop-i.i code_width c.from-bit.result c.loop-i.invariant.small
    (omega (arith, c.loop-i-test.true, c.requires)) bit)
