use Rattle.std.proofs.Common.{◌≡◌, drop, map}
use Rattle.si_base.specs.Faults.{first_in}
use Rattle.si_equations.specs.Equations.{signals, undeclared}
use Rattle.si_equations_reader.specs.Held.{progress_now, equation_now}
use Rattle.si_equations_reader.proofs.reader.undeclared_line.Given as goal

abbrev pub invariant-loop-equation : goal.invariant-loop-equation
invariant-loop-equation l =
    first_in (undeclared (signals (progress_now l.read)))
    (map equation_now (drop l.equation-index l.read.equations.items))
    ≡ first_in (undeclared (signals (progress_now l.read))) (map equation_now l.read.equations.items)
