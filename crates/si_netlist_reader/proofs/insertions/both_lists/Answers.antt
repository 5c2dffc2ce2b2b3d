use Rattle.std.proofs.Common.{rules, sym, ◌∙◌}
use Rattle.si_netlist_reader.proofs.InsertLineLemmas.{inserts}
use Rattle.si_netlist_reader.proofs.insertions.both_lists.Goals as goal

pub returns : goal.returns
returns c = inserts c.args.name.now c.args.words.now _ c.split_at.result.1.now _ _ c.in-len3-up.len_at_least
    (search rules)
    (sym c.begins_insert.ensures ∙ c.if-not-begins_insert.false) (sym c.has_empty.ensures ∙ c.if-has_empty.false)
    (sym c.in_ok-rising.ensures)
    (sym c.are_none.ensures ∙ c.if-are_none.false) (sym c.are_none-else-are_none.ensures ∙ c.if-are_none-2.false)
    (sym c.has_word.ensures ∙ c.if-has_word.false)
