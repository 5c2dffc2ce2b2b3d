use Rattle.std.proofs.Common.{sym, ◌∙◌}
use Rattle.std.proofs.lemmas.Result.{err_from_is_err_and}
use Rattle.si_tokens.specs.Loops.Parts.{left, piece}
use Rattle.si_genlib.specs.Loops.Held.{progress_now}
use Rattle.si_genlib.proofs.StatementLemmas.{next_statement, statement_fails}
use Rattle.si_genlib.proofs.statements.read_statements.Goals as goal

pub loop-first-smaller : goal.loop-first-smaller
loop-first-smaller c = (next_statement (progress_now c.loop-first.progress) (progress_now c.read_statement.new.progress)
    (left c.loop-first.source) (left c.read_statement.new.source) (piece c.in-Some.first (left c.next_word.new.self))
    c.in-Some.ensures.0 c.in-Some.ensures.1 c.in_ok-read_statement.ensures).1

pub loop-first-preserved : goal.loop-first-preserved
loop-first-preserved c = sym (next_statement (progress_now c.loop-first.progress)
    (progress_now c.read_statement.new.progress)
    (left c.loop-first.source) (left c.read_statement.new.source) (piece c.in-Some.first (left c.next_word.new.self))
    c.in-Some.ensures.0 c.in-Some.ensures.1 c.in_ok-read_statement.ensures).0 ∙ c.loop-first.invariant

pub returns-in_err-read_statement : goal.returns-in_err-read_statement
returns-in_err-read_statement c =
    let p = err_from_is_err_and c.from_residual.result c.from_residual.ensures.1 in
    rw (p.1, p.2) (statement_fails (progress_now c.loop-first.progress) (left c.loop-first.source)
    (piece c.in-Some.first
    (left c.next_word.new.self)) c.in_err-read_statement.field-0.0 _ c.in-Some.ensures.0 c.in-Some.ensures.1
    c.in_err-read_statement.ensures c.loop-first.invariant)
