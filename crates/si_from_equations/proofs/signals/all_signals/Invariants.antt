use Rattle.std.proofs.Common.{◌≡◌, ◌++◌, not, filter, take}
use Rattle.si_base.specs.declared.graph.SigKind.TheVariants.{Inserted}
use Rattle.si_base.specs.GivenGraph.{signals_of}
use Rattle.si_equations.specs.Equations.{driven}
use Rattle.si_equations_reader.specs.Read.{equations_now}
use Rattle.si_from_equations.specs.Beside as spec
use Rattle.si_from_equations.proofs.signals.all_signals.Given as goal

abbrev pub invariant-loop-k : goal.invariant-loop-k
invariant-loop-k l = l.signals.items ≡ l.graph.signals
    ++ signals_of Inserted (filter (λ name. not (spec.has_name l.graph.signals name))
    (take l.k (driven (equations_now l.equations))))
