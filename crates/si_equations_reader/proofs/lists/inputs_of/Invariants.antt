use Rattle.std.proofs.Common.{drop}
use Rattle.si_equations.specs.Equations.{without}
use Rattle.si_equations_reader.proofs.ListLemmas.{GoOn}
use Rattle.si_equations_reader.proofs.lists.inputs_of.Given as goal

abbrev pub invariant-loop-k : goal.invariant-loop-k
invariant-loop-k l = GoOn l.inputs (without l.outputs (drop l.k l.listed)) (without l.outputs l.listed)
