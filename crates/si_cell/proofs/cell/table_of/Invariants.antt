use Rattle.std.proofs.Common.{◌≡◌, ◌<◌, ◌-◌, ◌^◌, map}
use Rattle.std.specs.List.{range_with_len}
use Rattle.si_base.specs.Netlist.{sum_value}
use Rattle.si_cell.specs.Library.{code_of}
use Rattle.si_cell.specs.Limits.{table_codes}
use Rattle.si_cell.proofs.cell.table_of.Given as goal

abbrev pub invariant-loop-k : goal.invariant-loop-k
invariant-loop-k l = record {
  value : l.table ≡ code_of (map (λ code. sum_value code l.sum) (range_with_len (table_codes - l.k) l.k));
  small : l.table < 2 ^ l.k;
}
