use Rattle.si_bounds.proofs.PointLemmas.{missed_there}
use Rattle.si_bounds.proofs.points.missed_where.Goals as goal

pub returns : goal.returns
returns c = λ values next four. missed_there c.args.table values four c.args.new c.with_new.result
    (λ last. c.with_new.ensures values last four) next
