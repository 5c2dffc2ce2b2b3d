use Rattle.std.proofs.Common.{◌++◌, drop}
use Rattle.si_equations_reader.proofs.ListLemmas.{GoOn}
use Rattle.si_equations_reader.proofs.lists.add_all.Given as goal

abbrev pub invariant-loop-k : goal.invariant-loop-k
invariant-loop-k l = GoOn l.signals (drop l.k l.names) (l.fn.signals ++ l.names)
