use Rattle.std.proofs.Common.{◌≡◌}
use Rattle.si_match.proofs.FunctionLemmas.{tables_of_first}
use Rattle.si_match.proofs.functions.all_tables.Given as goal

abbrev pub invariant-loop-k : goal.invariant-loop-k
invariant-loop-k l = l.tables.items ≡ tables_of_first l.library l.k
