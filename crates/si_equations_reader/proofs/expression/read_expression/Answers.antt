use Rattle.si_tokens.specs.Loops.Parts.{left, piece}
use Rattle.si_tokens.specs.Unread.{tokens}
use Rattle.si_tokens.proofs.SourceLemmas.{token_smaller}
use Rattle.si_equations_reader.proofs.expression.read_expression.Goals as goal

pub loop-token-smaller : goal.loop-token-smaller
loop-token-smaller c = token_smaller (left c.loop-token.source) (piece c.in-Some.token (left c.next_token.new.self))
    (tokens (left c.next_token.new.self)) c.in-Some.ensures
