use Rattle.std.proofs.Common.{◌≡◌, ◌<◌, ◌-◌, ◌+◌, ◌^◌, [], ◌∷◌, ◌++◌, length, drop, map}
use Rattle.si_base.specs.Netlist.{literal_value}
use Rattle.si_cell.specs.Library.{code_of}
use Rattle.si_cell.proofs.library.values_of.Given as goal

abbrev pub invariant-loop-i : goal.invariant-loop-i
invariant-loop-i l = record {
  value : l.values ≡ code_of (map (literal_value l.code) (drop (length l.literals - l.i) l.literals) ++ l.q ∷ []);
  small : l.values < 2 ^ (l.i + 1);
}
