-- What a reason against a gate shows is there to be told.
use Rattle.std.proofs.Common.{◌<◌, List, [], ◌∷◌, ◌++◌, length}
use Rattle.std.proofs.Common.{arith}
use Rattle.std.proofs.lemmas.List.{length-append}
use Rattle.si_audit.proofs.FaultSignalLemmas.{among}
use Rattle.si_audit.specs.Loops.FaultSignals.{AreAmong}
use Rattle.si_base.specs.declared.graph.Signal.{Signal}
use Rattle.si_base.specs.Graph.{StateGraph, IsGraph}
use Rattle.si_base.specs.Limits.{max_signals}
use Rattle.si_insert.specs.Accepted.{ShowsRejected}
use Rattle.si_insert.specs.declared.accept.Rejected.{Rejected}
use Rattle.si_insert.specs.declared.partition.Class.{Class}

-- ---- events of the signals and the new one
pub told_among : (g : StateGraph) (classes : List Class) (new : Signal) (shown : Rejected) → IsGraph g
    → length g.signals < max_signals → ShowsRejected g classes shown → AreAmong (g.signals ++ new ∷ []) shown
told_among g classes new shown graph room shows =
    let more = length-append g.signals (new ∷ []) in
    among g classes (g.signals ++ new ∷ []) shown graph (omega (arith, more)) (omega (arith, more, room)) shows
