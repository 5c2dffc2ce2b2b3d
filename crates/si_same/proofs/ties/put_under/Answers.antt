use Rattle.std.proofs.Common.{arith}
use Rattle.si_same.proofs.ForestLemmas.{joined_forest, raised_not, raised_more, rank_below}
use Rattle.si_same.proofs.ties.put_under.Goals as goal
use Rattle.si_same.proofs.ties.put_under.Goals.{then-ranks-low, else-ranks-low}

pub overflow_add-ranks : goal.overflow_add-ranks
overflow_add-ranks c =
    let r = c.requires in
    omega (
      arith,
      r.forest.small,
      rank_below c.args.parents.now c.args.ranks.now r.forest c.args.low c.args.high r.low
          r.high r.low_root r.high_root r.apart,
    )

pub returns-clause-forest : goal.returns-clause-forest
returns-clause-forest c =
    let ps = c.args.parents.now in
    let ranks = c.args.ranks.now in
    let low = c.args.low in
    let high = c.args.high in
    let r = c.requires in
    let raised = c.if-ranks-low.ranks in
    joined_forest ps ranks r.forest low high r.low r.high r.low_root r.high_root r.apart raised
    (elim c.if-ranks-low.branch [
      | then-ranks-low w ↦ raised_more ps ranks r.forest low high r.low r.high r.low_root r.high_root r.apart raised
          w.ranks-is w.if-ranks-low.true
      | else-ranks-low w ↦ raised_not ps ranks r.forest low high r.low r.high r.low_root r.high_root r.apart raised
          w.ranks-is (let other = w.if-ranks-low.false in omega (arith, r.order))
    ])
