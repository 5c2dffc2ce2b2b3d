use Rattle.si_timing.proofs.write.assure.Goals as goal

pub returns : goal.returns
returns c = record {
  cells = rw c.library.ensures at c.cells-cells.ensures.library;
  ports = c.ports-ports.ensures.ports;
  netlist = c.signals-signals.ensures.netlist;
  of_cells = c.requires;
}
