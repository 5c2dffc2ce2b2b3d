use Rattle.std.proofs.Common.{◌≡◌, drop}
use Rattle.si_equations_reader.specs.Read.{equations_now}
use Rattle.si_from_equations.specs.Beside.{expression_of}
use Rattle.si_from_equations.proofs.beside.sum_for.Given as goal

abbrev pub invariant-loop-k : goal.invariant-loop-k
invariant-loop-k l = expression_of (drop l.k (equations_now l.equations).equations) l.name
    ≡ expression_of (equations_now l.equations).equations l.name
