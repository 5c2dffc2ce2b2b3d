use Rattle.std.proofs.Common.{codes, map}
use Rattle.si_words.proofs.WritingLemmas.{left_as}
use Rattle.si_base.specs.declared.graph.Signal.{Signal}
use Rattle.si_pictures.proofs.CodeLemmas.{line_by_calls}
use Rattle.si_pictures.proofs.states_text.add_signals.Goals as goal

pub returns : goal.returns
returns c =
    left_as _ _ _ _ (line_by_calls c.args.text.now (codes "signals") (map (λ (x : Signal). x.name) c.args.signals.now)
    _ _ c.in_ok-add.ensures.added c.in_ok-add_signal_names.ensures) c.add-2.ensures.added
