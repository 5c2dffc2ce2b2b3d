use Rattle.si_graph.proofs.graph.Graph.arcs_out.Goals as goal

pub returns : goal.returns
returns c = rw (← c.self.view_is) (record {
  graph = c.self.invariant;
  exactly = c.arcs_out.ensures.exactly;
  ordered = c.arcs_out.ensures.ordered;
})
