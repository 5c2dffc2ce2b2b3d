use Rattle.std.proofs.Common.{◌≡◌}
use Rattle.si_tokens.specs.Loops.Parts.{left}
use Rattle.si_tokens.specs.Unread.{tokens, size}
use Rattle.si_genlib.specs.Expression.{read, start, trees}
use Rattle.si_equations_reader.specs.Loops.Machine.{state_now}
use Rattle.si_equations_reader.proofs.expression.read_expression.Given as goal

abbrev pub invariant-loop-token : goal.invariant-loop-token
invariant-loop-token l = read trees (state_now l.reading) (tokens (left l.source))
    ≡ read trees start (tokens (left l.fn.source))

abbrev pub decreases-loop-token : goal.decreases-loop-token
decreases-loop-token l = size (left l.source)
