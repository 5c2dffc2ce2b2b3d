use Rattle.std.proofs.Common.{◌≡◌, ◌++◌, ◌≤◌, length, take, drop, None}
use Rattle.si_words.specs.Names.{name_fault}
use Rattle.si_base.specs.Faults.{first_after}
use Rattle.si_words.specs.Loops.Reads.{words_now}
use Rattle.si_words.proofs.lists.add_names.Given as goal

abbrev pub invariant-loop-word : goal.invariant-loop-word
invariant-loop-word l = record {
  fault : first_after (name_fault l.limit) l.names (drop l.word-index (words_now l.words))
      ≡ first_after (name_fault l.limit) l.fn.names (words_now l.words);
  value : l.names ≡ l.fn.names ++ take l.word-index (words_now l.words);
  good : first_after (name_fault l.limit) l.fn.names (take l.word-index (words_now l.words)) ≡ None;
  few : length l.fn.names ≤ l.limit → length l.names ≤ l.limit;
}
