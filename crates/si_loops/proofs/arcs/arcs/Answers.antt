use Rattle.std.proofs.Common.{◌≡◌, sym, subst, ◌∙◌}
use Rattle.si_base.specs.Netlist.{gate_place}
use Rattle.si_netlist.specs.Loops.Parts.{gate_seen}
use Rattle.si_loops.proofs.ArcLemmas.{AreGates, arcs_more, gate_fits, narrow_more}
use Rattle.si_loops.proofs.arcs.arcs.Goals as goal

pub loop-z-preserved : goal.loop-z-preserved
loop-z-preserved c =
    let n = c.args.netlist.now in
    let items = c.as_slice-z-items.result.now in
    let same : c.as_slice.result.now ≡ items = c.as_slice.ensures.value ∙ sym c.as_slice-z-items.ensures.value in
    let made = rw same at c.in_ok-add_arcs.ensures in
    let gates = subst (AreGates n.signals) (sym c.as_slice-z-items.ensures.value) c.in_ok-driven.ensures.gates in
    record {
      arcs = arcs_more n items c.loop-z.z-index c.z-item.result c.pins-pins.result (gate_seen c.gate_of.result.now)
          c.loop-z.arcs.items c.add_arcs.new.arcs.items c.loop-z-test.true c.z-item.is
          (c.as_slice-z-items.ensures.value ∙ c.in_ok-driven.ensures.signals) c.gate_of.ensures.gate c.pins-pins.ensures
          c.loop-z.invariant.arcs made;
      narrow = narrow_more c.loop-z.arcs.items c.add_arcs.new.arcs.items items c.z-item.result c.pins-pins.result
          c.gate_of.ensures.within (λ i d within. (gates i d within).1) c.loop-z.invariant.narrow made;
    }

pub pins-pins-requires : goal.pins-pins-requires
pins-pins-requires c = gate_fits c.args.netlist.now (gate_place c.args.netlist.now.signals c.z-item.result)
    (gate_seen c.gate_of.result.now) c.driven.ensures.netlist c.gate_of.ensures.gate
