use Rattle.std.proofs.Common.{◌∙◌, sym}
use Rattle.si_explain.proofs.ExplainLines.{pair_added, pair_there}
use Rattle.si_explain.proofs.explain.add_if_new.Goals as goal

pub returns-then-is_among : goal.returns-then-is_among
returns-then-is_among c = rw c.in-Some.is (pair_there c.args.pairs.now.items c.in-Some.found.0 c.in-Some.found.1
    (sym c.is_among.ensures ∙ c.if-is_among.true))

pub returns : goal.returns
returns c = rw c.in-Some.is (pair_added c.args.pairs.now.items c.push.new.self.items c.in-Some.found.0 c.in-Some.found.1
    (sym c.is_among.ensures ∙ c.if-is_among.false) c.in_ok-push.ensures.items)
