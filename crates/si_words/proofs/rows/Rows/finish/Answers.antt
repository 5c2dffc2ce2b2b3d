use Rattle.std.proofs.Common.{sym, ◌∙◌}
use Rattle.si_words.proofs.RowLemmas.{all_read, more_is_left, nothing, something}
use Rattle.si_words.proofs.rows.Rows.finish.Goals as goal

pub returns-then-is_empty-clause-ok : goal.returns-then-is_empty-clause-ok
returns-then-is_empty-clause-ok c =
    rw (← c.self.view_is) (all_read c.self.inside.rest.now c.self.inside.number
    (nothing c.self.inside.rest.now (sym c.is_empty.ensures ∙ c.if-is_empty.true)))

pub returns-else-is_empty-clause-err : goal.returns-else-is_empty-clause-err
returns-else-is_empty-clause-err c =
    rw (← c.self.view_is) (more_is_left c.self.inside.rest.now c.self.inside.number
    (something c.self.inside.rest.now (sym c.is_empty.ensures ∙ c.if-is_empty.false)))
