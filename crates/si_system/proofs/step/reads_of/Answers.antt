use Rattle.std.proofs.Common.{◌≡◌, ◌<◌, arith, length, ap, sym, ◌∙◌}
use Rattle.si_base.specs.Limits.{max_signals}
use Rattle.si_system.proofs.ReadLemmas.{has_gate, has_none, filled_none, filled_skip, filled_more, filled_all}
use Rattle.si_system.proofs.step.reads_of.Goals.{then-is_driven, else-is_driven}
use Rattle.si_system.proofs.step.reads_of.Goals as goal

pub loop-k-init : goal.loop-k-init
loop-k-init c = filled_none c.args.netlist.now

pub reads-requires : goal.reads-requires
reads-requires c =
    has_gate c.args.netlist.now c.signals-signal-items.result.now c.loop-k.k c.signal-item.result
    c.signals-signal-items.ensures.signals c.loop-k-test.true c.signal-item.is
    (sym c.is_driven.ensures ∙ c.if-is_driven.true)

pub loop-k-preserved : goal.loop-k-preserved
loop-k-preserved c =
    let n = c.args.netlist.now in
    let same = c.signals-signal-items.ensures.signals in
    let few = c.signals-signal-items.ensures.netlist.few in
    let within : c.loop-k.k < max_signals = omega (arith, ap length same) in
    elim c.if-is_driven.branch [
      | then-is_driven w ↦ rw w.reads-is
          (filled_more n c.loop-k.k c.loop-k.reads w.reads.result c.loop-k.invariant within
          (has_gate n _ c.loop-k.k c.signal-item.result same c.loop-k-test.true c.signal-item.is
          (sym c.is_driven.ensures ∙ w.if-is_driven.true)) w.reads.ensures)
      | else-is_driven w ↦ rw w.reads-is (filled_skip n c.loop-k.k c.loop-k.reads c.loop-k.invariant
          (has_none n _ c.loop-k.k c.signal-item.result same c.loop-k-test.true c.signal-item.is
          (sym c.is_driven.ensures ∙ w.if-is_driven.false)))
    ]

pub returns : goal.returns
returns c =
    let n = c.args.netlist.now in
    let same = ap length c.signals-signal-items.ensures.signals in
    let ended : c.loop-k.k ≡ length n.signals = omega (arith, same) in
    filled_all n c.loop-k.reads (rw ended at c.loop-k.invariant) c.signals-signal-items.ensures.netlist.few
