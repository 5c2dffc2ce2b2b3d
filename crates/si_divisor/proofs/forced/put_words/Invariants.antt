use Rattle.std.proofs.Common.{◌≡◌, length, true, false}
use Rattle.si_divisor.proofs.ForcedLemmas.{TellFirst}
use Rattle.si_divisor.proofs.forced.put_words.Given as goal

abbrev pub invariant-loop-k : goal.invariant-loop-k
invariant-loop-k l = record {
  up_size : length l.up ≡ 128;
  down_size : length l.down ≡ 128;
  up : TellFirst l.functions true l.columns l.k l.up;
  down : TellFirst l.functions false l.columns l.k l.down;
}
