use Rattle.std.proofs.Common.{◌≡◌, drop}
use Rattle.std.specs.List.{list_all}
use Rattle.si_equations_reader.specs.Read.{equations_now}
use Rattle.si_from_equations.specs.Beside as spec
use Rattle.si_from_equations.proofs.signals.has_all_inputs.Given as goal

abbrev pub invariant-loop-k : goal.invariant-loop-k
invariant-loop-k l = list_all (spec.has_name l.signals) (drop l.k l.inputs)
    ≡ list_all (spec.has_name l.signals) (equations_now l.equations).inputs
