use Rattle.std.proofs.Common.{sym, subst, ◌∙◌, Result}
use Rattle.std.proofs.lemmas.Result.{err_from_is_err_and}
use Rattle.si_tokens.specs.declared.fault.Stop.{Stop}
use Rattle.si_tokens.specs.Loops.Parts.{left, piece, Shows}
use Rattle.si_tokens.specs.Unread.{tokens}
use Rattle.si_equations.specs.Equations.{Equations}
use Rattle.si_equations_reader.specs.Held.{progress_now}
use Rattle.si_equations_reader.proofs.StatementLemmas.{no_equation, next_equation, equation_fails, statements_begin}
use Rattle.si_equations_reader.proofs.StatementLemmas.{lists_fail}
use Rattle.si_equations_reader.proofs.statements.read_statements.Goals as goal

pub loop-first-init : goal.loop-first-init
loop-first-init c = record {
  statements = statements_begin _ _ _ c.in_ok-progress.ensures.lists;
  counted = c.in_ok-progress.ensures.counted;
}

pub loop-first-smaller : goal.loop-first-smaller
loop-first-smaller c = (next_equation (progress_now c.loop-first.progress) (progress_now c.read_equation.new.progress)
    (left c.loop-first.source) (left c.read_equation.new.source) (piece c.in-Some.first (left c.next_token.new.self))
    (tokens (left c.next_token.new.self)) c.in-Some.ensures c.in_ok-read_equation.ensures.equation).1

pub loop-first-preserved : goal.loop-first-preserved
loop-first-preserved c = record {
  statements = sym (next_equation (progress_now c.loop-first.progress) (progress_now c.read_equation.new.progress)
      (left c.loop-first.source) (left c.read_equation.new.source)
      (piece c.in-Some.first (left c.next_token.new.self)) (tokens (left c.next_token.new.self))
      c.in-Some.ensures c.in_ok-read_equation.ensures.equation).0 ∙ c.loop-first.invariant.statements;
  counted = c.in_ok-read_equation.ensures.counted;
}

pub returns-in_err-read_equation : goal.returns-in_err-read_equation
returns-in_err-read_equation c =
    let p = err_from_is_err_and c.from_residual-in_err-read_equation.result
    c.from_residual-in_err-read_equation.ensures.1 in
    record {
      statements = rw (p.1, p.2) (subst (λ (r : Result Equations Stop). Shows c.in_err-read_equation.field-0.0 r)
          c.loop-first.invariant.statements
          (equation_fails (progress_now c.loop-first.progress) (left c.loop-first.source)
          (piece c.in-Some.first (left c.next_token.new.self)) (tokens (left c.next_token.new.self))
          c.in_err-read_equation.field-0.0 c.in-Some.ensures c.in_err-read_equation.ensures.equation));
      counted = rw p.1 tt;
    }

pub returns-in_err-progress : goal.returns-in_err-progress
returns-in_err-progress c =
    let p = err_from_is_err_and c.from_residual.result c.from_residual.ensures.1 in
    record {
      statements = rw (p.1, p.2) (lists_fail (left c.args.source.now) c.in_err-progress.field-0.0
          c.in_err-progress.ensures.lists);
      counted = rw p.1 tt;
    }

pub returns : goal.returns
returns c = record {
  statements = sym c.loop-first.invariant.statements
      ∙ no_equation (progress_now c.loop-first.progress) (left c.loop-first.source) c.in_default.ensures;
  counted = c.loop-first.invariant.counted;
}
