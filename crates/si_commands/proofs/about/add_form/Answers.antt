use Rattle.std.proofs.Common.{◌≡◌, ◌++◌}
use Rattle.si_commands.specs.About.{shown_form, shown_tail}
use Rattle.si_commands.specs.Loops.Reads.{form_now, tail_now}
use Rattle.si_commands.proofs.HelpLines.{form_added, ok_weaker}
use Rattle.si_commands.proofs.about.add_form.Goals as goal

pub returns : goal.returns
returns c =
    let places = c.args.places.now in
    let tail = c.args.tail in
    let all = c.add_tail.new.text in
    ok_weaker c.add_tail.result (all ≡ c.loop-slot.text ++ shown_tail (tail_now tail))
    (all ≡ c.args.text.now ++ shown_form (form_now places tail))
    (form_added places tail c.loop-slot.slot-index c.args.text.now c.add.new.self c.loop-slot.text all
    c.loop-slot-test.false c.in_ok-add.ensures.added c.loop-slot.invariant)
    c.add_tail.ensures
