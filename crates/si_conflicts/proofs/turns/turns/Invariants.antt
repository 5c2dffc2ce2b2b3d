use Rattle.std.proofs.Common.{◌≡◌, take}
use Rattle.si_conflicts.specs.Loops.Keys.{no_key}
use Rattle.si_conflicts.specs.Loops.Turns.{turns_after}
use Rattle.si_conflicts.proofs.TurnLemmas.{last_key}
use Rattle.si_conflicts.proofs.turns.turns.Given as goal

abbrev pub invariant-loop-member : goal.invariant-loop-member
invariant-loop-member l = record {
  turns : l.turns.items ≡ turns_after no_key (take l.member-index l.members);
  last : l.last ≡ last_key no_key (take l.member-index l.members);
}
