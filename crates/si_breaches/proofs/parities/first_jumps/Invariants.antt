use Rattle.std.proofs.Common.{◌≡◌, ◌<◌, ℕ, length}
use Rattle.si_breaches.specs.Loops.Jumps.{IsJump, jump_at}
use Rattle.si_walks.specs.Tree.{IsTree}
use Rattle.si_breaches.proofs.parities.first_jumps.Given as goal

abbrev pub invariant-loop-k : goal.invariant-loop-k
invariant-loop-k l = (length l.jumps.items ≡ l.k) × ((tree : IsTree l.graph l.last) (s : ℕ) → s < l.k
    → IsJump l.graph tree.path 1 s (jump_at l.jumps.items s))
