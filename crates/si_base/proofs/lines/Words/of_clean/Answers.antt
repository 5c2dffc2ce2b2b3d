use Rattle.std.proofs.Common.{◌≡◌, ◌<◌, ◌==◌, true, length, get_or, refl, sym, ap, ◌∙◌, arith, ne_eqb}
use Rattle.std.proofs.lemmas.Bool.{true≢false}
use Rattle.si_base.specs.Lines.{words_in}
use Rattle.si_base.proofs.LineScans.{bad_byte, no_bad_byte, comment_at}
use Rattle.si_base.proofs.lines.Words.of_clean.Goals as goal
use Rattle.si_base.proofs.lines.Words.of_clean.Goals.{else-end-line-via-then-end-line+else-line-end-ne35}
use Rattle.si_base.proofs.lines.Words.of_clean.Goals.{else-end-line-via-else-end-line}

pub returns-then-line-end-ne35-clause-bad : goal.returns-then-line-end-ne35-clause-bad
returns-then-line-end-ne35-clause-bad c = (
  λ none. bad_byte c.args.line.now c.clean_len-end.result c.clean_len-end.ensures.len c.if-end-line.true
      (ne_eqb _ 35 c.if-line-end-ne35.true),
  λ bad. refl,
)

pub returns-clause-bad : goal.returns-clause-bad
returns-clause-bad c =
    let line = c.args.line.now in
    let n = c.clean_len-end.result in
    let ends : n < length line → (get_or line n 0 == 35) ≡ true = elim c.else-end-line.branch [
      | else-end-line-via-then-end-line+else-line-end-ne35 w ↦ λ more. ap (λ b. b == 35) w.if-line-end-ne35.false
      | else-end-line-via-else-end-line w ↦ λ more. absurd (omega (arith, more, w.if-end-line.false))
    ] in (
      λ none. absurd (true≢false none),
      λ bad. absurd (true≢false (sym bad ∙ no_bad_byte line n c.clean_len-end.ensures.len ends)),
    )

pub returns-clause-words : goal.returns-clause-words
returns-clause-words c =
    let line = c.args.line.now in
    let n = c.clean_len-end.result in
    let ends : n < length line → (get_or line n 0 == 35) ≡ true = elim c.else-end-line.branch [
      | else-end-line-via-then-end-line+else-line-end-ne35 w ↦ λ more. ap (λ b. b == 35) w.if-line-end-ne35.false
      | else-end-line-via-else-end-line w ↦ λ more. absurd (omega (arith, more, w.if-end-line.false))
    ] in
    ap (words_in c.args.braces) (sym (comment_at line n c.clean_len-end.ensures.len ends))
