use Rattle.std.proofs.Common.{◌∙◌, ap, sym, subst}
use Rattle.std.proofs.lemmas.Result.{err_from_is_err_and}
use Rattle.si_base.specs.Codes.{CodedGraph, IsCoded, IsDeterministic}
use Rattle.si_base.specs.Graph.{StateGraph}
use Rattle.si_divisor.specs.Loops.ManyFunctions.{AreSettledWords}
use Rattle.si_divisor.proofs.FirstWords.{as_many, forced_alike}
use Rattle.si_divisor.proofs.PartitionLemmas.{lawful}
use Rattle.si_divisor.proofs.partition_for.partition_where.Goals as goal

pub settled_for-requires-clause-up_size : goal.settled_for-requires-clause-up_size
settled_for-requires-clause-up_size c = as_many c.in_ok-rising.rising.items c.args.up.now
    c.args.graph.now.graph.states c.in_ok-rising.ensures c.requires.up_size

pub settled_for-requires-clause-down_size : goal.settled_for-requires-clause-down_size
settled_for-requires-clause-down_size c = as_many c.in_ok-falling.falling.items c.args.down.now
    c.args.graph.now.graph.states c.in_ok-falling.ensures c.requires.down_size

pub classes_for-requires-clause-deterministic : goal.classes_for-requires-clause-deterministic
classes_for-requires-clause-deterministic c =
    subst (λ (h : StateGraph). IsDeterministic h) (sym c.graph.ensures.same) c.graph.ensures.coded.deterministic

pub classes_for-requires-clause-words : goal.classes_for-requires-clause-words
classes_for-requires-clause-words c =
    let same = c.graph.ensures.same ∙ ap (λ (d : CodedGraph). d.graph) c.coded.ensures.same in
    subst (λ (h : StateGraph). AreSettledWords h c.in_ok-settled.settled) (sym same) c.in_ok-settled.ensures.settled

pub returns-in_err-classes-clause-fault : goal.returns-in_err-classes-clause-fault
returns-in_err-classes-clause-fault c =
    let exit = err_from_is_err_and c.from_residual-in_err-classes.result c.from_residual-in_err-classes.ensures.1 in
    let same = c.graph.ensures.same ∙ ap (λ (d : CodedGraph). d.graph) c.coded.ensures.same in
    let forced = forced_alike _ _ _ _ _ _ c.in_ok-settled.ensures.up c.in_ok-settled.ensures.down
    c.in_ok-rising.ensures c.in_ok-falling.ensures in
    rw (exit.1, exit.2, sym same, sym forced) c.in_err-classes.ensures.fault

pub known-requires : goal.known-requires
known-requires c =
    let same = c.graph.ensures.same ∙ ap (λ (d : CodedGraph). d.graph) c.coded.ensures.same in
    let is = subst IsCoded c.coded.ensures.same c.graph.ensures.coded in
    let forced = forced_alike _ _ _ _ _ _ c.in_ok-settled.ensures.up c.in_ok-settled.ensures.down
    c.in_ok-rising.ensures c.in_ok-falling.ensures in
    lawful c.args.graph.now.graph _ c.in_ok-classes.classes.items is.graph_is
    (rw (same, forced) at c.in_ok-classes.ensures.partition)

pub returns-clause-lawful : goal.returns-clause-lawful
returns-clause-lawful c =
    let same = c.graph.ensures.same ∙ ap (λ (d : CodedGraph). d.graph) c.coded.ensures.same in
    let is = subst IsCoded c.coded.ensures.same c.graph.ensures.coded in
    let forced = forced_alike _ _ _ _ _ _ c.in_ok-settled.ensures.up c.in_ok-settled.ensures.down
    c.in_ok-rising.ensures c.in_ok-falling.ensures in
    rw c.known.ensures (lawful c.args.graph.now.graph _ c.in_ok-classes.classes.items is.graph_is
    (rw (same, forced) at c.in_ok-classes.ensures.partition))

pub returns-clause-partition : goal.returns-clause-partition
returns-clause-partition c =
    let same = c.graph.ensures.same ∙ ap (λ (d : CodedGraph). d.graph) c.coded.ensures.same in
    let forced = forced_alike _ _ _ _ _ _ c.in_ok-settled.ensures.up c.in_ok-settled.ensures.down
    c.in_ok-rising.ensures c.in_ok-falling.ensures in
    rw c.known.ensures (rw (same, forced) at c.in_ok-classes.ensures.partition)
