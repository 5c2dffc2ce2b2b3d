use Rattle.std.proofs.Common.{◌≡◌, drop}
use Rattle.si_words.specs.Names.{stands_in}
use Rattle.si_equations.specs.Equations.{driven}
use Rattle.si_equations_reader.specs.Read.{equations_now}
use Rattle.si_from_equations.proofs.signals.has_equation.Given as goal

abbrev pub invariant-loop-k : goal.invariant-loop-k
invariant-loop-k l =
    stands_in (drop l.k (driven (equations_now l.equations))) l.name ≡ stands_in (driven (equations_now l.equations)) l.name
