use Rattle.std.proofs.Common.{◌∙◌, ap, sym}
use Rattle.si_base.specs.declared.ids.Event.{Event}
use Rattle.si_base.specs.NetlistText.{name_of}
use Rattle.si_words.proofs.WritingLemmas.{left_as}
use Rattle.si_pictures.proofs.CodeLemmas.{event_by_calls, no_event}
use Rattle.si_pictures.proofs.states_text.add_event_if.Goals as goal

pub returns-then-not-enabled : goal.returns-then-not-enabled
returns-then-not-enabled c =
    let e : Event = record { sig = c.args.z; up = c.args.up } in
    no_event c.args.graph.now c.args.s e (sym c.if-not-enabled.ensures) c.args.text.now

pub returns : goal.returns
returns c =
    let e : Event = record { sig = c.args.z; up = c.args.up } in
    let name = c.signal_name.ensures ∙ ap (λ signals. name_of signals c.args.z) c.signals.ensures in
    left_as _ _ _ _ (event_by_calls c.args.graph.now c.args.s e (sym c.if-not-enabled.ensures) c.args.text.now _ _ _
    name c.sign.ensures c.in_ok-add_word.ensures) c.add.ensures.added
