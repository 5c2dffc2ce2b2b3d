use Rattle.si_netlist.specs.Loops.Parts.{gate_seen}
use Rattle.si_by_hand.specs.Forcing.{forced_at}
use Rattle.si_by_hand.proofs.ForcedSetLemmas.{IsToldTo}
use Rattle.si_by_hand.proofs.forcing.forced_states.Given as goal

abbrev pub invariant-loop-s : goal.invariant-loop-s
invariant-loop-s l = IsToldTo (forced_at (gate_seen l.gate) l.coded l.fn.value) l.coded.graph.states l.s l.set
