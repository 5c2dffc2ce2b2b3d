use Rattle.std.proofs.Common.{sym, ◌∙◌, arith}
use Rattle.std.proofs.lemmas.Bool.{not-false, not-true}
use Rattle.si_words.proofs.RowLemmas.{begins_row, another_row}
use Rattle.si_words.proofs.rows.Rows.take_line.Goals as goal
use Rattle.si_words.proofs.rows.Rows.take_line.Goals.{then-len-rest-via-then-len-rest}
use Rattle.si_words.proofs.rows.Rows.take_line.Goals.{then-len-rest-via-else-len-rest+then-ne}

pub returns-then-len-rest-clause-is : goal.returns-then-len-rest-clause-is
returns-then-len-rest-clause-is c =
    rw (← c.self.view_is)
    (sym (another_row c.self.inside.rest.now c.split_at.result.0.now c.args.line.now c.len_of_line-len.result
    c.len_of_line-len.ensures.len c.split_at.ensures.front (elim c.then-len-rest.branch [
      | then-len-rest-via-then-len-rest w ↦ λ within. absurd (omega (arith, within, w.if-len-rest.true))
      | then-len-rest-via-else-len-rest+then-ne w ↦ λ within. not-true _ (sym w.ne.ensures ∙ w.if-ne.true)
    ])))

pub returns-clause-is : goal.returns-clause-is
returns-clause-is c =
    rw (← c.self.view_is)
    (sym (begins_row c.self.inside.rest.now c.split_at.result.0.now c.args.line.now c.split_at-2.result.1.now
    c.len_of_line-len.result c.self.inside.number c.len_of_line-len.ensures.len c.if-len-rest.false
    c.split_at.ensures.front c.split_at-2.ensures.back (not-false _ (sym c.ne.ensures ∙ c.if-ne.false))).0)

pub returns-clause-left : goal.returns-clause-left
returns-clause-left c =
    rw (← c.self.view_is) (begins_row c.self.inside.rest.now c.split_at.result.0.now c.args.line.now
    c.split_at-2.result.1.now c.len_of_line-len.result c.self.inside.number c.len_of_line-len.ensures.len
    c.if-len-rest.false c.split_at.ensures.front c.split_at-2.ensures.back
    (not-false _ (sym c.ne.ensures ∙ c.if-ne.false))).1
