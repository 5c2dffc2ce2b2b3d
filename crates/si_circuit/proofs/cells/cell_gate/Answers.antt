use Rattle.std.proofs.Common.{◌∙◌, sym}
use Rattle.si_checks.specs.Loops.Lent.{coded_of}
use Rattle.si_match.proofs.KnownLemmas.{has_bit}
use Rattle.si_circuit.proofs.CellLemmas.{instance_of}
use Rattle.si_circuit.proofs.cells.cell_gate.Goals as goal

pub gate_of_instance-requires-clause-instance : goal.gate_of_instance-requires-clause-instance
gate_of_instance-requires-clause-instance c =
    instance_of (coded_of c.args.graph) c.args.library.now c.args.z c.in-Some.instance c.requires.coded
    (sym c.fit.ensures ∙ c.in-Some.is)

pub gate_of_instance-requires-clause-signal : goal.gate_of_instance-requires-clause-signal
gate_of_instance-requires-clause-signal c =
    has_bit (coded_of c.args.graph) c.args.z c.requires.coded c.requires.driven
