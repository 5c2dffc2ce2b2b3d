use Rattle.std.proofs.Common.{◌≡◌, ◌++◌, drop}
use Rattle.si_base.specs.NetlistText.{bits_from}
use Rattle.si_netlist.proofs.write.add_bits.Given as goal

abbrev pub invariant-loop-i : goal.invariant-loop-i
invariant-loop-i l =
    l.text ++ bits_from l.i (drop l.i l.signals) l.code ≡ l.initial.text ++ bits_from 0 l.signals l.code
