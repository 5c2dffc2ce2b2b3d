use Rattle.std.proofs.Common.{take}
use Rattle.si_conflicts.specs.Conflicts.{pairs_of}
use Rattle.si_explain.specs.ExplainText.{ExplainsAll}
use Rattle.si_explain.proofs.explain.add_conflicts.Given as goal

abbrev pub invariant-loop-pair : goal.invariant-loop-pair
invariant-loop-pair l =
    ExplainsAll l.graph l.states (pairs_of (take l.pair-index l.pairs)) l.initial.text l.text
