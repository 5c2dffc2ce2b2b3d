use Rattle.std.proofs.Common.{ap, sym, ◌∙◌, length, arith}
use Rattle.std.proofs.lemmas.Bool.{true≢false}
use Rattle.si_base.specs.Netlist.{gate_place}
use Rattle.si_netlist.specs.Loops.Parts.{gate_seen}
use Rattle.si_loops.proofs.ArcLemmas.{gate_fits}
use Rattle.si_timing.proofs.Decisions.{all_before, is_signal}
use Rattle.si_timing.proofs.write.check_gates.Goals as goal

pub is_cell_gate-requires-clause-fits : goal.is_cell_gate-requires-clause-fits
is_cell_gate-requires-clause-fits c =
    gate_fits c.args.netlist.now (gate_place c.args.netlist.now.signals c.loop-z.z) (gate_seen c.gate_of.result.now)
    c.signals-signal-items.ensures.netlist c.gate_of.ensures.gate

pub returns-then-not-branch-clause-err : goal.returns-then-not-branch-clause-err
returns-then-not-branch-clause-err c =
    let n = c.args.netlist.now in
    let at = is_signal n _ c.loop-z.z c.signal-item.result c.signals-signal-items.ensures.signals c.loop-z-test.true
    c.signal-item.is in
    record {
      gate = gate_seen c.gate_of.result.now;
      has = record {
        driven = (c.signal-item.result, at, sym c.if-not-is_driven.ensures);
        there = c.gate_of.ensures.gate;
      };
      none = λ some. true≢false (sym (c.in_ok-is_cell_gate.ensures.1 some) ∙ c.if-not-branch.true);
      others = c.loop-z.invariant;
    }

pub returns-clause-ok : goal.returns-clause-ok
returns-clause-ok c =
    all_before c.args.library.now c.args.netlist.now c.loop-z.z
    (omega (arith, c.loop-z-test.false, ap length c.signals-signal-items.ensures.signals)) c.loop-z.invariant
