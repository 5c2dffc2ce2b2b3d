use Rattle.std.proofs.Common.{◌≡◌}
use Rattle.si_genlib.specs.GenlibText.{all_kept}
use Rattle.si_tokens.specs.Loops.Parts.{left}
use Rattle.si_genlib.specs.Loops.Held.{progress_now}
use Rattle.si_genlib.specs.Statements.{nothing_yet}
use Rattle.si_tokens.specs.Unread.{size}
use Rattle.si_genlib.proofs.statements.read_statements.Given as goal

abbrev pub invariant-loop-first : goal.invariant-loop-first
invariant-loop-first l = all_kept (progress_now l.progress) (left l.source) ≡ all_kept nothing_yet (left l.fn.source)

abbrev pub decreases-loop-first : goal.decreases-loop-first
decreases-loop-first l = size (left l.source)
