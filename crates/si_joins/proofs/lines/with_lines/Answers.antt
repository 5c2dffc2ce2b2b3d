use Rattle.std.proofs.Common.{◌∙◌, List, Ok, IsTrue, refl, sym, ap, subst, arith}
use Rattle.si_base.specs.Codes.{CodedGraph}
use Rattle.si_base.specs.Netlist.{Insertion}
use Rattle.si_base.specs.Words.{is_signal_name}
use Rattle.si_joins.specs.Steps.{along, with_line}
use Rattle.si_joins.proofs.AlongLemmas.{along_may_stop, along_next}
use Rattle.si_joins.proofs.LineLemmas.{goes_on, goes_same}
use Rattle.si_readings.proofs.ReadingRefusals.{stops}
use Rattle.si_works.proofs.EachLemmas.{taken_all}
use Rattle.si_joins.proofs.lines.with_lines.Goals as goal

pub loop-k-init : goal.loop-k-init
loop-k-init c = (refl, (goes_same c.args.begun, c.requires.names))

pub with_line-requires-clause-count : goal.with_line-requires-clause-count
with_line-requires-clause-count c =
    c.requires.count ∙ ap (λ (d : CodedGraph). d.graph.states) (sym c.loop-k.invariant.1.0.given)

pub with_line-requires-clause-named : goal.with_line-requires-clause-named
with_line-requires-clause-named c =
    c.requires.named ∙ ap (λ (d : CodedGraph). d.graph.states) (sym c.loop-k.invariant.1.0.given)

pub with_line-requires-clause-before : goal.with_line-requires-clause-before
with_line-requires-clause-before c =
    let more = c.loop-k.invariant.1.0.more in
    omega (arith, more, c.requires.before)

pub with_line-requires-clause-own : goal.with_line-requires-clause-own
with_line-requires-clause-own c =
    subst (λ (i : Insertion). IsTrue (is_signal_name i.name)) (sym c.index-lines-k.is)
    (c.requires.own c.loop-k.k c.index-lines-k.result c.loop-k-test.true)

pub with_line-requires-clause-names : goal.with_line-requires-clause-names
with_line-requires-clause-names c = c.loop-k.invariant.1.1

pub returns-in_err-lineage-clause-err : goal.returns-in_err-lineage-clause-err
returns-in_err-lineage-clause-err c =
    let step = with_line c.args.states.now c.args.view.now in
    stops (along step c.args.begun c.args.lines.now) c.from_residual.result _ c.from_residual.ensures.1
    (along_may_stop step c.args.begun c.args.lines.now c.loop-k.k c.loop-k.lineage c.index-lines-k.result _
    c.loop-k-test.true c.index-lines-k.is c.loop-k.invariant.0 c.in_err-lineage.ensures.err)

pub loop-k-preserved : goal.loop-k-preserved
loop-k-preserved c = (
  along_next (with_line c.args.states.now c.args.view.now) c.args.begun c.args.lines.now c.loop-k.k c.loop-k.lineage
      c.index-lines-k.result c.in_ok-lineage.lineage c.loop-k-test.true c.index-lines-k.is c.loop-k.invariant.0
      c.in_ok-lineage.ensures.ok,
  (
    goes_on c.args.begun c.loop-k.lineage c.in_ok-lineage.lineage c.loop-k.invariant.1.0 c.in_ok-lineage.ensures.goes,
    c.in_ok-lineage.ensures.names,
  ),
)

pub returns-clause-ok : goal.returns-clause-ok
returns-clause-ok c =
    subst (λ (is : List Insertion). along (with_line c.args.states.now c.args.view.now) c.args.begun is
    (Ok c.loop-k.lineage)) (taken_all c.args.lines.now c.loop-k.k
    (omega (arith, c.loop-k-test.false, c.loop-k.auto.k-end))) c.loop-k.invariant.0
