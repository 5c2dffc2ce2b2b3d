use Rattle.std.proofs.Common.{◌≡◌, ◌∙◌, sym, subst}
use Rattle.si_base.specs.Codes.{IsCoded}
use Rattle.si_base.specs.WellFormed.{IsNetlist}
use Rattle.si_checks.specs.Loops.Lent.{coded_of}
use Rattle.si_circuit.specs.Covered.{HasPrimeGates}
use Rattle.si_circuit.specs.Gates.{gate_of}
use Rattle.si_circuit.proofs.GateLemmas.{made, chosen_is_netlist}
use Rattle.si_circuit.proofs.CoveredGates.{chosen_are_prime}
use Rattle.si_circuit.proofs.gates.netlist_with.Goals as goal

pub make-requires : goal.make-requires
make-requires c =
    let graph_is : c.coded-coded.result.now ≡ coded_of c.args.graph =
    c.coded-coded.ensures.same ∙ c.proper.ensures.same in
    let is = made (gate_of c.args.style) c.args.model (coded_of c.args.graph) _ _ _ _ _ _ _ graph_is
    c.graph-graph.ensures.same
    c.in_ok-signals.ensures c.start.ensures c.code-start.ensures c.in_ok-gates.ensures in
    subst IsNetlist (sym is) (chosen_is_netlist c.args.style (coded_of c.args.graph) c.args.model _
    (subst IsCoded graph_is c.graph-graph.ensures.coded) c.requires.spelled c.requires.inserted)

pub returns-clause-chosen : goal.returns-clause-chosen
returns-clause-chosen c =
    let graph_is : c.coded-coded.result.now ≡ coded_of c.args.graph =
    c.coded-coded.ensures.same ∙ c.proper.ensures.same in
    c.make.ensures ∙ made (gate_of c.args.style) c.args.model (coded_of c.args.graph) _ _ _ _ _ _ _ graph_is
    c.graph-graph.ensures.same c.in_ok-signals.ensures c.start.ensures c.code-start.ensures c.in_ok-gates.ensures

pub returns-clause-prime : goal.returns-clause-prime
returns-clause-prime c =
    let graph_is : c.coded-coded.result.now ≡ coded_of c.args.graph =
    c.coded-coded.ensures.same ∙ c.proper.ensures.same in
    subst (HasPrimeGates (coded_of c.args.graph)) (sym (returns-clause-chosen c))
    (chosen_are_prime c.args.style (coded_of c.args.graph) c.args.model _
    (subst IsCoded graph_is c.graph-graph.ensures.coded) c.proper.ensures.distinct)
