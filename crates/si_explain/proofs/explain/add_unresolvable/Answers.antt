use Rattle.si_explain.proofs.ExplainLines.{unresolvable_by_call}
use Rattle.si_explain.proofs.explain.add_unresolvable.Goals as goal

pub returns : goal.returns
returns c =
    unresolvable_by_call c.args.text.now c.args.states.now c.args.p c.args.q c.args.why.now c.args.told _ _ _
    c.if-not-told.false c.name_at.ensures c.name_at-2.ensures c.in_ok-add_line.ensures
