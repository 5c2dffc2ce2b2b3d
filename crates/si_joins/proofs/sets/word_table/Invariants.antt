use Rattle.std.proofs.Common.{◌↔◌, ℕ, List, Contains, take}
use Rattle.si_joins.proofs.sets.word_table.Given as goal

abbrev pub invariant-loop-k : goal.invariant-loop-k
invariant-loop-k l = (w : List ℕ) → Contains l.known w ↔ Contains (take l.k l.words) w
