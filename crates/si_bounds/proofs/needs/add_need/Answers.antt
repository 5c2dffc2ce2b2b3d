use Rattle.si_bounds.proofs.NeedLists.{keeps_asking, none_added}
use Rattle.si_bounds.proofs.needs.add_need.Goals as goal

pub returns-clause-kept : goal.returns-clause-kept
returns-clause-kept c = keeps_asking c.args.needs.now.items c.drop_beaten.new.needs.items c.push.new.self.items
    c.args.need c.in_ok-push.ensures.items c.drop_beaten.ensures.others c.drop_beaten.ensures.no_more

pub returns-clause-no_more : goal.returns-clause-no_more
returns-clause-no_more c = none_added c.args.needs.now.items c.drop_beaten.new.needs.items c.push.new.self.items
    c.args.need c.in_ok-push.ensures.items c.drop_beaten.ensures.others c.drop_beaten.ensures.no_more
