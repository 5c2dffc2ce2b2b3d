use Rattle.si_lint.proofs.UnresolvableLemmas.{few_if_some, many_if_none, all_unresolvable, joined_unresolvable}
use Rattle.si_lint.proofs.unresolvable.unresolvable.Goals as goal

pub returns-then-is_some : goal.returns-then-is_some
returns-then-is_some c = all_unresolvable c.args.coded.now _
    (few_if_some c.args.coded.now _ _ c.in_ok-twins.ensures c.is_some.ensures c.if-is_some.true)
    c.in_ok-found.ensures

pub returns : goal.returns
returns c = joined_unresolvable c.args.coded.now _
    (many_if_none c.args.coded.now _ _ c.in_ok-twins.ensures c.is_some.ensures c.if-is_some.false)
    c.in_ok-joined.ensures
