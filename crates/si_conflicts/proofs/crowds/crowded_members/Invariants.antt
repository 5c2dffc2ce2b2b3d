use Rattle.std.proofs.Common.{◌≡◌, take}
use Rattle.si_conflicts.proofs.CrowdLemmas.{crowded_from}
use Rattle.si_conflicts.proofs.crowds.crowded_members.Given as goal

abbrev pub invariant-loop-m : goal.invariant-loop-m
invariant-loop-m l = l.crowded.items ≡ crowded_from l.members l.least (take l.m-index l.members)
