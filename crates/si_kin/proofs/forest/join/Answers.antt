use Rattle.std.proofs.Common.{rules}
use Rattle.si_kin.proofs.ForestLemmas.{under_one, under_other}
use Rattle.si_kin.proofs.forest.join.Goals as goal

pub returns-then-lt : goal.returns-then-lt
returns-then-lt c =
    let one = c.root-one.ensures in
    let other = c.root-other.ensures in
    rw c.other.view_is (under_one c.args.parents.now c.args.s c.args.t c.root-one.new.parents c.root-one.result
    c.root-other.new.parents c.root-other.result one.way other.way other.root (search rules))

pub returns-else-lt : goal.returns-else-lt
returns-else-lt c =
    let one = c.root-one.ensures in
    let other = c.root-other.ensures in
    rw c.one.view_is (under_other c.args.parents.now c.args.s c.args.t c.root-one.new.parents c.root-one.result
    c.root-other.new.parents c.root-other.result one.way other.way one.root (search rules))
