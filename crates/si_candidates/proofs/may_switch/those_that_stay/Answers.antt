use Rattle.std.proofs.Common.{ap, get_or}
use Rattle.si_base.specs.declared.graph.Edge.{Edge}
use Rattle.si_candidates.proofs.MaySwitchWords.{stay_by_bits}
use Rattle.si_candidates.proofs.may_switch.those_that_stay.Goals as goal

pub returns : goal.returns
returns c =
    let words = c.args.words.now in
    stay_by_bits words c.args.arc.now c.args.given _ _ (c.type_inv.words c.arc.inside.0.0.0).fits
    (ap (λ s. get_or words s 0) (ap (λ (a : Edge). a.from) c.arc.view_is))
    (ap (λ s. get_or words s 0) (ap (λ (a : Edge). a.to) c.arc.view_is))
