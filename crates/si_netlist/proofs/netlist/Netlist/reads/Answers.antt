use Rattle.si_netlist.proofs.netlist.Netlist.reads.Goals as goal

pub returns : goal.returns
returns c x = rw c.gate_of.ensures.gate (c.reads.ensures x)
