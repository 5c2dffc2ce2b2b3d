use Rattle.std.proofs.Common.{◌∙◌, ap}
use Rattle.si_base.specs.declared.graph.Signal.{Signal}
use Rattle.si_from_equations.proofs.PlaceLemmas.{grows}
use Rattle.si_from_equations.proofs.signals.names_of.Goals as goal

pub loop-signal-preserved : goal.loop-signal-preserved
loop-signal-preserved c = record {
  names = grows c.args.signals.now c.loop-signal.signal-index _ c.bytes.result.now c.loop-signal.names
      c.add.new.self c.requires.distinct c.loop-signal-test.true c.loop-signal.invariant.names
      (c.bytes.ensures ∙ ap (λ (x : Signal). x.name) c.signal-item.is) c.in-Ok.ensures.new;
}
