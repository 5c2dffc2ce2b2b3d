use Rattle.std.proofs.Common.{◌∙◌, sym, subst}
use Rattle.si_base.specs.Codes.{CodedGraph}
use Rattle.si_base.specs.Proper.{IsProper}
use Rattle.si_insert.specs.Loops.Applied.{IsApplied}
use Rattle.si_insert.proofs.ApplyLemmas.{conditions, copies_inside, put_together}
use Rattle.si_insert.proofs.apply.apply_with_copies.Goals as goal

pub graph_of_copies-requires-clause-conditions : goal.graph_of_copies-requires-clause-conditions
graph_of_copies-requires-clause-conditions c =
    conditions c.args.graph.now c.coded-coded.result.now c.graph-given.result.now c.args.accepted.now
    c.classes-classes.result.now c.args.name.now
    (record {
      same = c.coded-coded.ensures.same;
      graph = c.graph-given.ensures.same;
      classes = c.classes-classes.ensures ∙ c.partition.ensures;
      coded = c.graph-given.ensures.coded;
      proper = c.coded-coded.ensures.proper;
      lawful = c.requires.accepted.lawful;
    }) c.requires.accepted c.requires.new

pub codes_of-requires-clause-within : goal.codes_of-requires-clause-within
codes_of-requires-clause-within c =
    copies_inside c.args.graph.now c.coded-coded.result.now c.graph-given.result.now c.args.accepted.now
    c.classes-classes.result.now c.as_slice-2.result.now
    (record {
      same = c.coded-coded.ensures.same;
      graph = c.graph-given.ensures.same;
      classes = c.classes-classes.ensures ∙ c.partition.ensures;
      coded = c.graph-given.ensures.coded;
      proper = c.coded-coded.ensures.proper;
      lawful = c.requires.accepted.lawful;
    })
    (c.as_slice-2.ensures.value ∙ c.in_ok-copies.ensures)

pub known-requires : goal.known-requires
known-requires c =
    (put_together c.args.graph.now c.coded-coded.result.now c.graph-given.result.now c.args.accepted.now
    c.classes-classes.result.now c.args.name.now c.in_ok-made.made c.in_ok-codes.codes.items c.as_slice-2.result.now
    (record {
      same = c.coded-coded.ensures.same;
      graph = c.graph-given.ensures.same;
      classes = c.classes-classes.ensures ∙ c.partition.ensures;
      coded = c.graph-given.ensures.coded;
      proper = c.coded-coded.ensures.proper;
      lawful = c.requires.accepted.lawful;
    }) c.requires.accepted
    c.in_ok-made.ensures c.in_ok-codes.ensures (c.as_slice-2.ensures.value ∙ c.in_ok-copies.ensures)).coded

pub known-graph-requires : goal.known-graph-requires
known-graph-requires c =
    let P : CodedGraph → Type 0 = λ h. IsProper h.graph in
    subst P (sym c.in_ok-inserted.ensures)
    (put_together c.args.graph.now c.coded-coded.result.now c.graph-given.result.now
    c.args.accepted.now c.classes-classes.result.now c.args.name.now c.in_ok-made.made c.in_ok-codes.codes.items
    c.as_slice-2.result.now
    (record {
      same = c.coded-coded.ensures.same;
      graph = c.graph-given.ensures.same;
      classes = c.classes-classes.ensures ∙ c.partition.ensures;
      coded = c.graph-given.ensures.coded;
      proper = c.coded-coded.ensures.proper;
      lawful = c.requires.accepted.lawful;
    }) c.requires.accepted
    c.in_ok-made.ensures c.in_ok-codes.ensures (c.as_slice-2.ensures.value ∙ c.in_ok-copies.ensures)).proper

pub returns-clause-graph : goal.returns-clause-graph
returns-clause-graph c =
    let P : CodedGraph → Type 0 = λ h. IsApplied c.args.graph.now c.args.accepted.now c.args.name.now h in
    subst P (sym (c.known-graph.ensures ∙ c.in_ok-inserted.ensures))
    (put_together c.args.graph.now c.coded-coded.result.now c.graph-given.result.now c.args.accepted.now
    c.classes-classes.result.now c.args.name.now c.in_ok-made.made c.in_ok-codes.codes.items c.as_slice-2.result.now
    (record {
      same = c.coded-coded.ensures.same;
      graph = c.graph-given.ensures.same;
      classes = c.classes-classes.ensures ∙ c.partition.ensures;
      coded = c.graph-given.ensures.coded;
      proper = c.coded-coded.ensures.proper;
      lawful = c.requires.accepted.lawful;
    }) c.requires.accepted
    c.in_ok-made.ensures c.in_ok-codes.ensures (c.as_slice-2.ensures.value ∙ c.in_ok-copies.ensures))
