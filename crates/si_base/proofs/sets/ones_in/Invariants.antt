use Rattle.std.proofs.Common.{◌≡◌, ◌*◌, count_by}
use Rattle.si_base.specs.Sets.{flags_of}
use Rattle.si_base.proofs.sets.ones_in.Given as goal

abbrev pub invariant-loop-word : goal.invariant-loop-word
invariant-loop-word l = l.total ≡ count_by (λ b. b) (flags_of (64 * l.word-index) l.words)
