use Rattle.std.proofs.Common.{◌≡◌, length}
use Rattle.si_candidates.proofs.AskLemmas.{AreGiven}
use Rattle.si_candidates.proofs.intervals.give.Given as goal

abbrev pub invariant-loop-s : goal.invariant-loop-s
invariant-loop-s l = record {
  size : length l.words ≡ length l.initial.words;
  given : AreGiven l.initial.words l.states l.bits l.s-index l.words;
}
