use Rattle.std.proofs.Common.{cond, ap, ◌∙◌}
use Rattle.si_conflicts.proofs.TallyLemmas.{tally_for}
use Rattle.si_conflicts.proofs.tally.Tally.for_change.Goals as goal

pub returns : goal.returns
returns c = λ copies from to is order all was.
    tally_for from to order copies all c.args.change is c.args.self _ was
    (c.kept.ensures ∙ ap (λ w. cond w c.args.self.plain 0) c.keeps_code.ensures)
    (c.kept-2.ensures ∙ ap (λ w. cond w c.args.self.equal 0) c.keeps_key.ensures)
    (c.kept-3.ensures ∙ ap (λ w. cond w c.args.self.switching 0) c.keeps_code-2.ensures)
