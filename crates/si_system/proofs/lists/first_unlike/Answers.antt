use Rattle.std.proofs.Common.{arith}
use Rattle.si_system.proofs.DifferenceLemmas.{same_from_places, ended_differs}
use Rattle.si_system.proofs.lists.first_unlike.Goals as goal

pub returns-then-own-others-clause-difference : goal.returns-then-own-others-clause-difference
returns-then-own-others-clause-difference c =
    same_from_places c.args.own.now c.args.values c.args.others.now c.args.start c.loop-k.k c.if-own-others.true
    (omega arith) c.loop-k.invariant

pub returns-else-own-others-clause-difference : goal.returns-else-own-others-clause-difference
returns-else-own-others-clause-difference c = record {
  differs = ended_differs c.args.own.now c.args.values c.args.others.now c.args.start c.min-both.result
      c.if-own-others.false (omega arith);
  before = λ j below. c.loop-k.invariant j (omega arith);
}
