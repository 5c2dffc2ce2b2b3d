use Rattle.std.proofs.Common.{◌≡◌, take}
use Rattle.si_base.specs.GivenGraph.{signals_of}
use Rattle.si_base.specs.declared.graph.SigKind.TheVariants.{Input}
use Rattle.si_genlib.proofs.write.pin_signals.Given as goal

abbrev pub invariant-loop-pin : goal.invariant-loop-pin
invariant-loop-pin l = l.signals.items ≡ signals_of Input (take l.pin-index l.pins)
