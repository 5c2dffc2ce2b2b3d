use Rattle.std.proofs.Common.{sym, subst}
use Rattle.si_base.specs.Graph.{IsNonInput}
use Rattle.si_loops.specs.declared.arcs.Arc.{Arc}
use Rattle.si_timing.proofs.write.add_cuts.Goals as goal

pub gate_of-gate-requires : goal.gate_of-gate-requires
gate_of-gate-requires c = subst (λ (a : Arc). IsNonInput c.args.netlist.now.signals a.to) (sym c.arc-item.is)
    (c.requires c.loop-arc.arc-index c.arc-item.result c.loop-arc-test.true)
