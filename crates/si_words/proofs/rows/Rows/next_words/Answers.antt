use Rattle.std.proofs.Common.{sym, ◌∙◌}
use Rattle.si_words.proofs.RowLemmas.{bad_row, last_row, takes_row}
use Rattle.si_words.proofs.rows.Rows.next_words.Goals as goal

pub returns-then-has_bad_byte-clause-err : goal.returns-then-has_bad_byte-clause-err
returns-then-has_bad_byte-clause-err c =
    λ form forms. rw (← c.self.view_is)
    (bad_row c.self.inside.rest.now _ _ c.self.inside.number form forms c.len_of_line-len.ensures.len
    c.split_at.ensures.front (sym c.has_bad_byte.ensures ∙ c.if-has_bad_byte.true))

pub returns-then-len-rest-clause-err : goal.returns-then-len-rest-clause-err
returns-then-len-rest-clause-err c =
    λ form forms. rw (← c.self.view_is)
    (last_row c.self.inside.rest.now _ _ c.self.inside.number form forms c.len_of_line-len.ensures.len
    c.split_at.ensures.front (sym c.has_bad_byte.ensures ∙ c.if-has_bad_byte.false) c.if-len-rest.true)

pub returns-clause-ok : goal.returns-clause-ok
returns-clause-ok c = rw (← c.self.view_is)
    (takes_row c.self.inside.rest.now _ _ _ c.self.inside.number _ c.len_of_line-len.ensures.len c.if-len-rest.false
    c.split_at.ensures.front c.split_at-2.ensures.back (sym c.has_bad_byte.ensures ∙ c.if-has_bad_byte.false)
    c.in_ok-words.ensures)
