use Rattle.std.proofs.Common.{◌≡◌, ◌*◌, ◌<◌, ◌≤◌, length, take, get_or}
use Rattle.si_base.specs.Limits.{max_states}
use Rattle.si_conflicts.specs.declared.keys.Key.{Key}
use Rattle.si_conflicts.specs.Loops.Apart.{AreUpTo, IsTally, IsUpTo}
use Rattle.si_conflicts.specs.Loops.Keys.{clash_count}
use Rattle.si_conflicts.proofs.SortedClashes.{plain_to}
use Rattle.si_conflicts.proofs.count.clashes_of_sorted.Given as goal

abbrev pub invariant-loop-key : goal.invariant-loop-key
invariant-loop-key l = record {
  tally : IsTally l.last (plain_to l.keys l.key-index) l.tally;
  order : AreUpTo (plain_to l.keys l.key-index) l.last;
  next : (d : Key) → l.key-index < length l.keys → IsUpTo l.last (get_or l.keys l.key-index d);
  total : l.total ≡ clash_count (take l.key-index l.keys);
  few : l.total ≤ l.key-index * max_states;
}
