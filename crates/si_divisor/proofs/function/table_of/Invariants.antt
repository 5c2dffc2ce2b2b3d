use Rattle.std.proofs.Common.{◌<◌, ◌^◌}
use Rattle.si_divisor.proofs.FunctionLemmas.{HasValues}
use Rattle.si_divisor.proofs.function.table_of.Given as goal

abbrev pub invariant-loop-k : goal.invariant-loop-k
invariant-loop-k l = record {
  values : HasValues l.library l.instance l.signals l.codes l.k l.table;
  small : l.table < 2 ^ l.k;
}
