use Rattle.std.proofs.Common.{◌≡◌, ◌∙◌, sym, subst}
use Rattle.si_base.specs.Codes.{IsCoded}
use Rattle.si_base.specs.RightGates.{GivesNextValues}
use Rattle.si_base.specs.WellFormed.{IsNetlist}
use Rattle.si_checks.specs.Loops.Lent.{coded_of}
use Rattle.si_circuit.specs.Cells.{cell_gate}
use Rattle.si_circuit.proofs.CellLemmas.{cells_give, cells_are_netlist}
use Rattle.si_circuit.proofs.GateLemmas.{made}
use Rattle.si_circuit.proofs.cells.netlist_of_cells.Goals as goal

pub make-requires : goal.make-requires
make-requires c =
    let k = coded_of c.args.graph in
    let library = c.args.library.now in
    let graph_is : c.coded-coded.result.now ≡ k = c.coded-coded.ensures.same ∙ c.proper.ensures.same in
    let is = made (λ g. cell_gate g library) c.args.model k _ _ _ _ _ _ _ graph_is c.graph-graph.ensures.same
    c.in_ok-signals.ensures c.start.ensures c.code-start.ensures c.in_ok-gates.ensures.gates in
    subst IsNetlist (sym is) (cells_are_netlist k library c.args.model _
    (subst IsCoded graph_is c.graph-graph.ensures.coded)
    c.in_ok-gates.ensures.library c.in_ok-gates.ensures.fit c.requires.spelled c.requires.inserted)

pub returns-clause-chosen : goal.returns-clause-chosen
returns-clause-chosen c =
    let k = coded_of c.args.graph in
    let graph_is : c.coded-coded.result.now ≡ k = c.coded-coded.ensures.same ∙ c.proper.ensures.same in
    c.make.ensures ∙ made (λ g. cell_gate g c.args.library.now) c.args.model k _ _ _ _ _ _ _ graph_is
    c.graph-graph.ensures.same
    c.in_ok-signals.ensures c.start.ensures c.code-start.ensures c.in_ok-gates.ensures.gates

pub returns-clause-gives : goal.returns-clause-gives
returns-clause-gives c =
    let k = coded_of c.args.graph in
    let graph_is : c.coded-coded.result.now ≡ k = c.coded-coded.ensures.same ∙ c.proper.ensures.same in
    subst (GivesNextValues k) (sym (returns-clause-chosen c))
    (cells_give k c.args.library.now c.args.model _ (subst IsCoded graph_is c.graph-graph.ensures.coded)
    c.in_ok-gates.ensures.library c.in_ok-gates.ensures.fit)
