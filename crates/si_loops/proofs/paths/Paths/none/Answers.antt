use Rattle.si_loops.proofs.PathLemmas.{no_ends}
use Rattle.si_loops.proofs.paths.Paths.none.Goals as goal

pub invariant_of-result : goal.invariant_of-result
invariant_of-result c = rw (c.new.ensures.items, c.in_ok-each_alone.ensures) no_ends
