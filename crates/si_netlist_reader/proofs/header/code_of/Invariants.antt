use Rattle.std.proofs.Common.{◌≡◌, ◌<◌, ◌-◌, ◌^◌, length, drop}
use Rattle.si_netlist_reader.specs.NetlistValue.{code_of_bits}
use Rattle.si_netlist_reader.proofs.header.code_of.Given as goal

abbrev pub invariant-loop-i : goal.invariant-loop-i
invariant-loop-i l = record {
  value : l.code ≡ code_of_bits (drop (length l.bits - l.i) l.bits);
  small : l.code < 2 ^ l.i;
}
