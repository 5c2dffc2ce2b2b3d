use Rattle.std.proofs.Common.{◌≡◌, length}
use Rattle.si_tokens.specs.Loops.Parts.{left}
use Rattle.si_tokens.specs.Unread.{tokens}
use Rattle.si_equations.specs.Equations.{statements_at}
use Rattle.si_equations_reader.specs.Held.{AreCounted, progress_now}
use Rattle.si_equations_reader.specs.Loops.Statements.{all_equations}
use Rattle.si_equations_reader.proofs.statements.read_statements.Given as goal

abbrev pub invariant-loop-first : goal.invariant-loop-first
invariant-loop-first l = record {
  statements : all_equations (progress_now l.progress) (left l.source) ≡ statements_at (left l.fn.source);
  counted : AreCounted l.progress;
}

abbrev pub decreases-loop-first : goal.decreases-loop-first
decreases-loop-first l = length (tokens (left l.source))
