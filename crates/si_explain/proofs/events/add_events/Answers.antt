use Rattle.std.proofs.Common.{ap₂, List, ℕ, ◌++◌}
use Rattle.si_explain.proofs.EventLemmas.{event_more}
use Rattle.si_explain.proofs.events.add_events.Goals as goal

pub loop-e-preserved : goal.loop-e-preserved
loop-e-preserved c = event_more c.args.signals.now c.args.events.now c.loop-e.e-index c.e-item.result
    c.signal_name.result.now c.sign.result.now _ c.loop-e.text c.add_word.new.text c.add.new.self c.loop-e-test.true
    c.e-item.is c.loop-e.invariant
    (ap₂ (λ (name mark : List ℕ). name ++ mark) c.signal_name.ensures c.sign.ensures) c.in_ok-add_word.ensures
    c.in_ok-add.ensures.added
