use Rattle.si_netlist.proofs.netlist.Netlist.gate_value.Goals as goal

pub returns : goal.returns
returns c = rw c.gate_of.ensures.gate c.value.ensures
