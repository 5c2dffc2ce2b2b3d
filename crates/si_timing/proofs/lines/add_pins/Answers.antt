use Rattle.si_timing.proofs.Writing.{first_and_rest, pin_more}
use Rattle.si_timing.proofs.lines.add_pins.Goals as goal

pub loop-pin-preserved : goal.loop-pin-preserved
loop-pin-preserved c = pin_more c.args.signals.now c.args.arc.now c.args.ports.now c.as_slice-pin-items.result.now
    c.loop-pin.pin-index c.pin-item.result c.literal-item.result c.loop-pin.literals.now _ c.loop-pin.text _ _
    c.loop-pin-test.true c.pin-item.is
    (first_and_rest c.loop-pin.literals.now c.literal-item.result c.in-len1-up.len_at_least c.literal-item.is)
    (rw c.bytes.ensures at c.in_ok-add_pin.ensures) c.loop-pin.invariant
