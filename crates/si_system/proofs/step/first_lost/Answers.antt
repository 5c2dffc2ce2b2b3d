use Rattle.std.proofs.Common.{◌≡◌, ◌<◌, false, arith, length, ap, sym, ◌∙◌, below_more}
use Rattle.si_base.specs.Bits.{bit}
use Rattle.si_system.proofs.ReadLemmas.{unread_kept}
use Rattle.si_system.proofs.StepLemmas.{lost_within, none_lost_more}
use Rattle.si_system.proofs.step.first_lost.Goals as goal

pub loop-k-preserved-then-not-get : goal.loop-k-preserved-then-not-get
loop-k-preserved-then-not-get c =
    let within : c.loop-k.k < length c.args.netlist.now.signals =
    omega (arith, ap length c.signals-count.ensures.signals) in
    let unread : bit c.index-reads-k.result c.args.fired ≡ false = sym c.get.ensures ∙ c.if-not-get.true in
    below_more _ _ c.loop-k.invariant
    (unread_kept c.args.netlist.now c.args.reads.now c.args.before c.args.after c.args.fired c.loop-k.k
    c.index-reads-k.result c.requires.reads c.requires.switched within c.index-reads-k.is unread)

pub loop-k-preserved : goal.loop-k-preserved
loop-k-preserved c = none_lost_more c.args.netlist.now _ _ _ c.loop-k.k c.is_lost.result c.is_lost.ensures
    c.if-is_lost.false c.loop-k.invariant

pub returns : goal.returns
returns c z lost =
    let within = lost_within _ _ _ _ z lost in
    c.loop-k.invariant z (omega (arith, within, ap length c.signals-count.ensures.signals)) lost
