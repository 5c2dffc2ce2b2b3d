use Rattle.std.proofs.Common.{All, take}
use Rattle.si_settled.specs.Loops.Known.{IsShownBy}
use Rattle.si_settled.proofs.known.next_shown.Given as goal

abbrev pub invariant-loop-k : goal.invariant-loop-k
invariant-loop-k l = All (λ z. IsShownBy l.netlist l.known z → ⊥) (take l.k l.signals)
