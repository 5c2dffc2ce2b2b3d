use Rattle.std.proofs.Common.{◌≡◌, sym, ◌∙◌, true}
use Rattle.si_base.specs.Words.{is_name_byte, is_signal_name}
use Rattle.si_words.specs.Events.{event_name, event_sign}
use Rattle.si_words.proofs.EventLemmas.{prefix_passes, is_undeclared, is_event}
use Rattle.si_words.proofs.event_words.read_event.Goals as goal

pub begins_name-requires : goal.begins_name-requires
begins_name-requires c = rw (c.split_at.ensures.front, c.name_len.ensures.len)
    (prefix_passes is_name_byte c.args.word.now)

pub returns-in-Some-clause-read : goal.returns-in-Some-clause-read
returns-in-Some-clause-read c =
    let named : c.split_at.result.0.now ≡ event_name c.args.word.now =
    rw c.name_len.ensures.len at c.split_at.ensures.front in
    let signed : c.split_at.result.1.now ≡ event_sign c.args.word.now =
    rw c.name_len.ensures.len at c.split_at.ensures.back in
    let good : is_signal_name c.split_at.result.0.now ≡ true = sym c.begins_name.ensures ∙ c.if-not-begins_name.false in
    is_event c.args.names.now c.args.word.now c.split_at.result.0.now c.split_at.result.1.now named signed good
    c.in_ok-up.ensures.0 c.in-Some.place c.in_ok-up.up c.in-Some.ensures c.in_ok-up.ensures.1

pub returns-in-None-clause-read : goal.returns-in-None-clause-read
returns-in-None-clause-read c =
    let named : c.split_at.result.0.now ≡ event_name c.args.word.now =
    rw c.name_len.ensures.len at c.split_at.ensures.front in
    let signed : c.split_at.result.1.now ≡ event_sign c.args.word.now =
    rw c.name_len.ensures.len at c.split_at.ensures.back in
    let good : is_signal_name c.split_at.result.0.now ≡ true = sym c.begins_name.ensures ∙ c.if-not-begins_name.false in
    is_undeclared c.args.names.now c.args.word.now c.split_at.result.0.now c.split_at.result.1.now named signed good
    c.in_ok-up.ensures.0 c.in-None.ensures
