use Rattle.si_graph.proofs.CodedLemmas.{coded_from, first_without}
use Rattle.si_graph.proofs.coded.Coded.codes_of.Goals as goal

pub returns-in-Some-first_wrong-clause-fault : goal.returns-in-Some-first_wrong-clause-fault
returns-in-Some-first_wrong-clause-fault c = (
  c.in_default.ensures,
  first_without c.args.graph.now c.in_ok-codes.codes.items c.in-Some-first_wrong.sig c.arcs-arcs.ensures.graph
      c.in_ok-codes.ensures.tells
      (rw (c.arcs-arcs.ensures.arcs, c.as_slice.ensures.value) at c.in-Some-first_wrong.ensures),
)

pub returns-in-None-clause-coded : goal.returns-in-None-clause-coded
returns-in-None-clause-coded c =
    coded_from c.args.graph.now c.in_ok-codes.codes.items c.arcs-arcs.ensures.graph c.requires c.in_default.ensures
    c.in_ok-codes.ensures.count c.in_ok-codes.ensures.tells
    (rw (c.arcs-arcs.ensures.arcs, c.as_slice.ensures.value) at c.in-None.ensures)
