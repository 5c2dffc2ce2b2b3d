use Rattle.std.proofs.Common.{ap, sym, length, arith}
use Rattle.si_netlist.specs.Loops.Parts.{gate_seen}
use Rattle.si_structure.specs.Refusals.{ShowsGates}
use Rattle.si_structure.proofs.NetlistDecisions.{all_before, first_refused, handed_on, one_more_input}
use Rattle.si_structure.proofs.NetlistDecisions.{one_more_placed, signal_at}
use Rattle.si_structure.proofs.write.check_gates.Goals as goal

pub loop-z-preserved-then-not-is_driven : goal.loop-z-preserved-then-not-is_driven
loop-z-preserved-then-not-is_driven c =
    let n = c.args.netlist.now in
    let at = signal_at n _ c.loop-z.z c.signal-item.result c.signals-signal-items.ensures.signals
    c.loop-z-test.true c.signal-item.is in
    one_more_input c.args.library.now c.args.complements n c.loop-z.z c.signal-item.result c.loop-z.invariant at
    (sym c.if-not-is_driven.ensures)

pub loop-z-preserved : goal.loop-z-preserved
loop-z-preserved c =
    let n = c.args.netlist.now in
    let at = signal_at n _ c.loop-z.z c.signal-item.result c.signals-signal-items.ensures.signals
    c.loop-z-test.true c.signal-item.is in
    one_more_placed c.args.library.now c.args.complements n c.loop-z.z (gate_seen c.gate_of.result.now)
    c.loop-z.invariant (record {
      driven = (c.signal-item.result, at, sym c.if-not-is_driven.ensures);
      there = c.gate_of.ensures.gate;
    }) c.in_ok-check_gate.ensures.ok

pub returns-in_err-check_gate-clause-err : goal.returns-in_err-check_gate-clause-err
returns-in_err-check_gate-clause-err c =
    let library = c.args.library.now in
    let complements = c.args.complements in
    let n = c.args.netlist.now in
    let at = signal_at n _ c.loop-z.z c.signal-item.result c.signals-signal-items.ensures.signals
    c.loop-z-test.true c.signal-item.is in
    handed_on c.from_residual.result _ (ShowsGates library complements n) c.from_residual.ensures.1
    (first_refused library complements n c.loop-z.z (gate_seen c.gate_of.result.now) c.in_err-check_gate.field-0.0
    c.loop-z.invariant (record {
      driven = (c.signal-item.result, at, sym c.if-not-is_driven.ensures);
      there = c.gate_of.ensures.gate;
    }) c.in_err-check_gate.ensures.err)

pub returns-clause-ok : goal.returns-clause-ok
returns-clause-ok c =
    all_before c.args.library.now c.args.complements c.args.netlist.now c.loop-z.z
    (omega (arith, ap length c.signals-signal-items.ensures.signals)) c.loop-z.invariant
