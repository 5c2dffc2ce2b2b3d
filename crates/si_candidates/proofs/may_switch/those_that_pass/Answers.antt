use Rattle.si_candidates.proofs.MaySwitchWords.{stay_or_leave}
use Rattle.si_candidates.proofs.may_switch.those_that_pass.Goals as goal

pub returns : goal.returns
returns c = stay_or_leave c.args.graph.now c.args.words.now c.args.arc.now c.args.given c.those_that_stay-stays.result
    c.those_to_leave.result c.those_that_stay-stays.ensures c.those_to_leave.ensures
