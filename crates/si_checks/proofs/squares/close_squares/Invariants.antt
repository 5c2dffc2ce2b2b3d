use Rattle.si_checks.proofs.SquareLemmas.{CloseBefore}
use Rattle.si_checks.proofs.squares.close_squares.Given as goal

abbrev pub invariant-loop-k : goal.invariant-loop-k
invariant-loop-k l = CloseBefore l.graph l.arcs l.k
