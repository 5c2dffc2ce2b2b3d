use Rattle.std.proofs.Common.{◌*◌, ◌≤◌, List}
use Rattle.si_base.specs.Limits.{max_states}
use Rattle.si_conflicts.specs.declared.members.Member.{Member}
use Rattle.si_conflicts.specs.Loops.Turns.{AreTurns}
use Rattle.si_conflicts.proofs.TurnLemmas.{Passed}
use Rattle.si_conflicts.proofs.trial.count_stable.Given as goal

abbrev pub invariant-loop-turn : goal.invariant-loop-turn
invariant-loop-turn g l = record {
  passed : (ms : List Member) → AreTurns ms l.turns
      → Passed (g.C.Classes.classes l.classes) ms l.turn-index l.low l.high l.total;
  few : l.total ≤ l.turn-index * (2 * max_states);
}
