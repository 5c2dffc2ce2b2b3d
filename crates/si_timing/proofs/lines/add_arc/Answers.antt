use Rattle.std.proofs.Common.{ap, ◌∙◌}
use Rattle.si_words.proofs.WritingLemmas.{left_as}
use Rattle.si_genlib.specs.Ports.{Ports}
use Rattle.si_timing.proofs.Writing.{line_by_calls}
use Rattle.si_timing.proofs.lines.add_arc.Goals as goal

pub returns : goal.returns
returns c = left_as _ _ _ _
    (line_by_calls c.args.signals.now c.args.z c.args.ports.now c.args.from.now c.args.text.now _ _ _ _ _ _ _ _
    c.in_ok-add.ensures.added c.in_ok-add-2.ensures.added c.in_ok-add-3.ensures.added
    (c.bytes.ensures ∙ ap (λ (p : Ports). p.output) c.ports.view_is) c.in_ok-add-4.ensures.added
    c.in_ok-add-5.ensures.added c.signal_name.ensures c.in_ok-add-6.ensures.added) c.add-7.ensures.added
