use Rattle.std.proofs.Common.{subst, List, ◌⊎◌}
use Rattle.si_bounds.specs.Loops.Points.{Clashes, SomeMissLess}
use Rattle.si_bounds.specs.declared.points.Missed.{Missed}
use Rattle.si_bounds.proofs.PointLemmas.{all_told, one_told, told_already}
use Rattle.si_bounds.proofs.points.least_missed.Goals as goal

pub loop-table-preserved-then-adds_nothing : goal.loop-table-preserved-then-adds_nothing
loop-table-preserved-then-adds_nothing c =
    let told = c.adds_nothing.ensures.0 c.if-adds_nothing.true in
    told_already c.args.tables.now c.args.seen c.loop-table.table-index c.loop-table.least.items c.loop-table.invariant
    c.missed_by-missed.result c.missed_by-missed.ensures
    (subst (λ (ms : List Missed). Clashes c.missed_by-missed.result ⊎ SomeMissLess ms c.missed_by-missed.result)
    c.deref.ensures.value told)

pub loop-table-preserved : goal.loop-table-preserved
loop-table-preserved c =
    one_told c.args.tables.now c.args.seen c.loop-table.table-index c.loop-table.least.items c.loop-table.invariant
    c.missed_by-missed.result c.missed_by-missed.ensures c.push.new.self.items c.loop-table-test.true
    c.in_ok-push.ensures.items

pub returns-clause-told : goal.returns-clause-told
returns-clause-told c =
    all_told c.args.tables.now c.args.seen c.loop-table.table-index c.loop-table.least.items c.loop-table-test.false
    c.loop-table.invariant
