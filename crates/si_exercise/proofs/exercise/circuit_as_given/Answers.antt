use Rattle.std.proofs.Common.{◌∙◌, ap, sym, subst}
use Rattle.si_circuit.specs.Circuits.{AreStateNames, circuit_of}
use Rattle.si_circuit.specs.Spelled.{AreSpelled}
use Rattle.si_circuit.specs.declared.style.Style.TheVariants.{Complex}
use Rattle.si_insert.specs.Lineage.{History}
use Rattle.si_exercise.proofs.exercise.circuit_as_given.Goals as goal

pub of_sums-requires-clause-spelled : goal.of_sums-requires-clause-spelled
of_sums-requires-clause-spelled c =
    let Spelled : History → Type 0 = λ l. AreSpelled c.args.model.now l.current.coded.graph.signals in
    subst Spelled (sym c.in_ok-resolved.ensures) c.requires.spelled

pub of_sums-requires-clause-states : goal.of_sums-requires-clause-states
of_sums-requires-clause-states c =
    let Named : History → Type 0 = λ l. AreStateNames l.given.graph c.args.states.now in
    subst Named (sym c.in_ok-resolved.ensures) c.requires.states

pub returns-in-Ok : goal.returns-in-Ok
returns-in-Ok c =
    c.in-Ok.ensures.netlist
    ∙ ap (λ (l : History). circuit_of Complex c.args.model.now c.args.states.now l) c.in_ok-resolved.ensures
