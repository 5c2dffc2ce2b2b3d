use Rattle.std.proofs.Common.{◌∙◌, ◌++◌, ◌∷◌, List, ℕ, ap, sym}
use Rattle.si_base.specs.declared.graph.Signal.{Signal}
use Rattle.si_pictures.proofs.CodeLemmas.{spaced_name}
use Rattle.si_pictures.proofs.WritingParts.{item_more, items_done, mapped_parts}
use Rattle.si_pictures.proofs.states_text.add_signal_names.Goals as goal

pub loop-signal-preserved : goal.loop-signal-preserved
loop-signal-preserved c = item_more spaced_name c.args.signals.now c.loop-signal.signal-index c.signal-item.result _
    c.loop-signal.text c.add_word.new.text c.loop-signal-test.true c.signal-item.is c.loop-signal.invariant
    (c.in_ok-add_word.ensures ∙ ap (λ (t : List ℕ). c.loop-signal.text ++ 32 ∷ t) c.bytes.ensures)

pub returns : goal.returns
returns c =
    items_done spaced_name c.args.signals.now c.loop-signal.signal-index c.loop-signal.text c.args.text.now
    c.loop-signal-test.false c.loop-signal.invariant
    ∙ ap (λ (t : List ℕ). c.args.text.now ++ t)
    (sym (mapped_parts (λ w. 32 ∷ w) (λ (x : Signal). x.name) c.args.signals.now))
