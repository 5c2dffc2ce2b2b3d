use Rattle.std.proofs.Common.{◌≡◌, ◌<◌, ◌-◌, ◌^◌, length, drop, map}
use Rattle.si_base.specs.Bits.{bit}
use Rattle.si_cell.specs.Library.{code_of}
use Rattle.si_match.proofs.rows.values_at.Given as goal

abbrev pub invariant-loop-i : goal.invariant-loop-i
invariant-loop-i l = record {
  value : l.values ≡ code_of (map (bit l.code) (drop (length l.signals - l.i) l.signals));
  small : l.values < 2 ^ l.i;
}
