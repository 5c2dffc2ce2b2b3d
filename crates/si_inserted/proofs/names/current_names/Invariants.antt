use Rattle.std.proofs.Common.{◌≡◌, map}
use Rattle.std.specs.List.{range_with_len}
use Rattle.si_inserted.specs.Current.{current_name}
use Rattle.si_inserted.proofs.names.current_names.Given as goal

abbrev pub invariant-loop-s : goal.invariant-loop-s
invariant-loop-s l = l.names ≡ map (current_name l.states l.lineage) (range_with_len 0 l.s)
