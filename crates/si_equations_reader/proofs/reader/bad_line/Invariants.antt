use Rattle.std.proofs.Common.{◌≡◌, length}
use Rattle.si_base.specs.Lines.{numbered}
use Rattle.si_tokens.specs.Unread.{bad_line}
use Rattle.si_equations_reader.proofs.reader.bad_line.Given as goal

abbrev pub invariant-loop-line : goal.invariant-loop-line
invariant-loop-line l = bad_line l.lines ≡ bad_line (numbered l.text)

abbrev pub decreases-loop-line : goal.decreases-loop-line
decreases-loop-line l = length l.lines
