use Rattle.std.proofs.Common.{ap, sym, subst, ◌∙◌}
use Rattle.std.proofs.lemmas.Result.{err_from_is_err_and}
use Rattle.si_base.specs.Codes.{CodedGraph}
use Rattle.si_base.specs.System.{IsFor}
use Rattle.si_audit.proofs.LastBuilt.{no_conflict}
use Rattle.si_audit.proofs.InsertionFaults.{rejection_shows}
use Rattle.si_audit.proofs.WalkLemmas.{given_stays, last_signals}
use Rattle.si_insert.specs.Lineage.{given_history}
use Rattle.si_audit.proofs.audit.certifying_lineage.Goals as goal

pub check_built-requires-clause-count : goal.check_built-requires-clause-count
check_built-requires-clause-count c =
    let n = c.args.netlist.now in
    let given =
    given_stays c.args.states.now (given_history c.args.graph) n.inserts c.in_ok-lineage.lineage
    c.in_ok-lineage.ensures.taken in
    c.requires.count ∙ ap (λ (d : CodedGraph). d.graph.states) (sym given)

pub check_built-requires-clause-lists : goal.check_built-requires-clause-lists
check_built-requires-clause-lists c =
    let n = c.args.netlist.now in
    let given =
    given_stays c.args.states.now (given_history c.args.graph) n.inserts c.in_ok-lineage.lineage
    c.in_ok-lineage.ensures.taken in
    subst (λ (d : CodedGraph). IsFor d n) (sym given) c.requires.lists

pub check_built-requires-clause-signals : goal.check_built-requires-clause-signals
check_built-requires-clause-signals c =
    last_signals c.args.states.now c.args.graph c.args.netlist.now c.in_ok-lineage.lineage
    c.signals-signals.ensures.netlist c.requires.lists c.in_ok-lineage.ensures.taken

pub returns-clause-resolved : goal.returns-clause-resolved
returns-clause-resolved c =
    no_conflict c.in_ok-lineage.lineage.current.coded c.current-current.ensures.kept.coded c.args.netlist.now
    c.in_ok-check_built.ensures.built.signals c.in_ok-check_built.ensures.built.gives

pub returns-in_err-lineage-clause-fault : goal.returns-in_err-lineage-clause-fault
returns-in_err-lineage-clause-fault c =
    let p = err_from_is_err_and c.from_residual.result c.from_residual.ensures.1 in
    rw (p.1, p.2) (rejection_shows c.args.states.now c.args.graph c.args.netlist.now c.in_err-lineage.field-0.0
    c.in_err-lineage.ensures.fault)
