use Rattle.std.proofs.Common.{arith, ap, ◌∙◌, length, List, get_or}
use Rattle.si_base.specs.declared.ids.Event.{Event}
use Rattle.si_system.specs.Verdict.{System}
use Rattle.si_system.specs.declared.verdict.Verdict.TheVariants.{Done}
use Rattle.si_system.proofs.OutcomeLemmas.{same_verdict, passes_next, first_differing}
use Rattle.si_system.proofs.replay.outcome_of.Goals as goal

pub returns-in_default : goal.returns-in_default
returns-in_default c =
    let y : System = c.args.system.now in
    let is = c.event-item.is ∙ ap (λ (es : List Event). get_or es c.loop-k.k c.event-item.result)
    c.deref-event-items.ensures.value in
    let len = ap length c.deref-event-items.ensures.value in
    first_differing y.coded.graph y.netlist y.state c.args.schedule.now.items c.loop-k.k c.loop-k.system.state
    c.event-item.result c.fire-verdict.result c.fire-verdict.new.self.state
    (omega arith) is c.loop-k.invariant.passes
    (same_verdict y.coded c.loop-k.system.coded y.netlist c.loop-k.system.netlist _ _ _ _ c.loop-k.invariant.coded
    c.loop-k.invariant.netlist c.fire-verdict.ensures.verdict) c.in_default.not-Done

pub loop-k-preserved : goal.loop-k-preserved
loop-k-preserved c =
    let y : System = c.args.system.now in
    let is = c.event-item.is ∙ ap (λ (es : List Event). get_or es c.loop-k.k c.event-item.result)
    c.deref-event-items.ensures.value in
    let len = ap length c.deref-event-items.ensures.value in
    let done = same_verdict y.coded c.loop-k.system.coded y.netlist c.loop-k.system.netlist c.loop-k.system.state
    c.event-item.result Done c.fire-verdict.new.self.state c.loop-k.invariant.coded c.loop-k.invariant.netlist
    c.in-Done.ensures.verdict in
    record {
      coded = c.fire-verdict.ensures.graph ∙ c.loop-k.invariant.coded;
      netlist = c.fire-verdict.ensures.netlist ∙ c.loop-k.invariant.netlist;
      place = done.1;
      passes = passes_next y.coded.graph y.netlist y.state c.args.schedule.now.items c.loop-k.k c.loop-k.system.state
          c.event-item.result c.fire-verdict.new.self.state
          (omega arith) is c.loop-k.invariant.passes done;
    }
