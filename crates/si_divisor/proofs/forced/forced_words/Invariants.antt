use Rattle.std.proofs.Common.{◌*◌, min, true, false}
use Rattle.si_divisor.proofs.ForcedLemmas.{AreForcedTo}
use Rattle.si_divisor.proofs.forced.forced_words.Given as goal

abbrev pub invariant-loop-block : goal.invariant-loop-block
invariant-loop-block l = record {
  up : AreForcedTo l.coded l.functions true (min (128 * l.block) l.states) l.up.items;
  down : AreForcedTo l.coded l.functions false (min (128 * l.block) l.states) l.down.items;
}
