use Rattle.std.proofs.Common.{◌∙◌, ap, sym, subst}
use Rattle.std.proofs.lemmas.Result.{err_from_is_err_and}
use Rattle.si_base.specs.Codes.{CodedGraph, IsCoded, IsDeterministic}
use Rattle.si_base.specs.Graph.{StateGraph}
use Rattle.si_cell.specs.Library.{instance_value}
use Rattle.si_closures.specs.Loops.WordSearch.{column}
use Rattle.si_divisor.specs.Loops.ManyFunctions.{AreSettledWords}
use Rattle.si_divisor.proofs.FunctionLemmas.{signals_within}
use Rattle.si_divisor.proofs.PartitionForAnswers.{partition_carried, lawful_carried, reason_carried}
use Rattle.si_divisor.proofs.partition_for.partition_for.Goals as goal

pub settled_alone-requires : goal.settled_alone-requires
settled_alone-requires c =
    signals_within c.args.library.now c.args.instance.now c.function_of.result c.requires c.function_of.ensures

pub classes_for-requires-clause-deterministic : goal.classes_for-requires-clause-deterministic
classes_for-requires-clause-deterministic c =
    subst (λ (h : StateGraph). IsDeterministic h) (sym c.graph.ensures.same) c.graph.ensures.coded.deterministic

pub classes_for-requires-clause-words : goal.classes_for-requires-clause-words
classes_for-requires-clause-words c =
    let same = c.graph.ensures.same ∙ ap (λ (d : CodedGraph). d.graph) c.coded.ensures.same in
    subst (λ (h : StateGraph). AreSettledWords h c.in_ok-settled.settled) (sym same) c.in_ok-settled.ensures.settled

pub returns-in_err-classes-clause-fault : goal.returns-in_err-classes-clause-fault
returns-in_err-classes-clause-fault c =
    let exit = err_from_is_err_and c.from_residual-in_err-classes.result c.from_residual-in_err-classes.ensures.1 in
    let value = instance_value c.args.library.now c.args.instance.now in
    let whole = c.args.graph.now in
    let up = column 0 c.in_ok-settled.settled.up.items in
    let down = column 0 c.in_ok-settled.settled.down.items in
    let same = c.graph.ensures.same ∙ ap (λ (d : CodedGraph). d.graph) c.coded.ensures.same in
    let is = subst IsCoded c.coded.ensures.same c.graph.ensures.coded in
    let forced = c.in_ok-settled.ensures.forced value c.function_of.ensures.table.value in
    rw (exit.1, exit.2) (reason_carried value whole c.graph.result.now up down same is forced _
    c.in_err-classes.ensures.fault)

pub known-requires : goal.known-requires
known-requires c =
    let value = instance_value c.args.library.now c.args.instance.now in
    let whole = c.args.graph.now in
    let up = column 0 c.in_ok-settled.settled.up.items in
    let down = column 0 c.in_ok-settled.settled.down.items in
    let same = c.graph.ensures.same ∙ ap (λ (d : CodedGraph). d.graph) c.coded.ensures.same in
    let is = subst IsCoded c.coded.ensures.same c.graph.ensures.coded in
    let forced = c.in_ok-settled.ensures.forced value c.function_of.ensures.table.value in
    lawful_carried value whole c.graph.result.now up down same is forced c.in_ok-classes.classes.items
    c.in_ok-classes.ensures.partition

pub returns-clause-lawful : goal.returns-clause-lawful
returns-clause-lawful c =
    let value = instance_value c.args.library.now c.args.instance.now in
    let whole = c.args.graph.now in
    let up = column 0 c.in_ok-settled.settled.up.items in
    let down = column 0 c.in_ok-settled.settled.down.items in
    let same = c.graph.ensures.same ∙ ap (λ (d : CodedGraph). d.graph) c.coded.ensures.same in
    let is = subst IsCoded c.coded.ensures.same c.graph.ensures.coded in
    let forced = c.in_ok-settled.ensures.forced value c.function_of.ensures.table.value in
    rw c.known.ensures (lawful_carried value whole c.graph.result.now up down same is forced
    c.in_ok-classes.classes.items c.in_ok-classes.ensures.partition)

pub returns-clause-partition : goal.returns-clause-partition
returns-clause-partition c =
    let value = instance_value c.args.library.now c.args.instance.now in
    let whole = c.args.graph.now in
    let up = column 0 c.in_ok-settled.settled.up.items in
    let down = column 0 c.in_ok-settled.settled.down.items in
    let same = c.graph.ensures.same ∙ ap (λ (d : CodedGraph). d.graph) c.coded.ensures.same in
    let is = subst IsCoded c.coded.ensures.same c.graph.ensures.coded in
    let forced = c.in_ok-settled.ensures.forced value c.function_of.ensures.table.value in
    rw c.known.ensures (partition_carried value whole c.graph.result.now up down same is forced
    c.in_ok-classes.classes.items c.in_ok-classes.ensures.partition)
