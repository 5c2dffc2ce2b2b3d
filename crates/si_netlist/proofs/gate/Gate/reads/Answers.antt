use Rattle.std.proofs.Common.{◌≡◌, refl}
use Rattle.si_base.specs.Bits.{bit}
use Rattle.si_base.proofs.BitFacts.{bit-or}
use Rattle.si_netlist.specs.Reads.{sum_reads}
use Rattle.si_netlist.proofs.gate.Gate.reads.Goals as goal

pub returns-in-Gc : goal.returns-in-Gc
returns-in-Gc c x =
    let set : bit c.result.inside.0 x ≡ sum_reads c.in-Gc.set x =
    rw c.result.view_is (c.sum_reads-in-Gc.ensures x) in
    let reset : bit c.result-in-Gc.inside.0 x ≡ sum_reads c.in-Gc.reset x =
    rw c.result-in-Gc.view_is (c.sum_reads-in-Gc-2.ensures x) in
    rw (bit-or, set, reset, c.in-Gc.is) refl
