use Rattle.std.proofs.Common.{◌≡◌, map, take, drop}
use Rattle.si_base.specs.Faults.{first_in}
use Rattle.si_base.specs.Graph.{names_in}
use Rattle.si_equations_reader.specs.Read.{equations_now}
use Rattle.si_netlist.specs.Loops.Parts.{gate_seen}
use Rattle.si_from_equations.specs.Beside as spec
use Rattle.si_from_equations.proofs.beside.gates_of.Given as goal

abbrev pub invariant-loop-signal : goal.invariant-loop-signal
invariant-loop-signal l = record {
  gates : map gate_seen l.gates.items ≡ map (spec.gate_for (names_in l.signals) (equations_now l.equations))
      (spec.gated (take l.signal-index l.signals));
  summed : spec.unsummed l.signals (equations_now l.equations)
      ≡ first_in (spec.without_sum (names_in l.signals) (equations_now l.equations))
      (spec.gated (drop l.signal-index l.signals));
}
