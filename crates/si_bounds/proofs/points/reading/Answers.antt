use Rattle.std.proofs.Common.{subst, sym}
use Rattle.si_bounds.proofs.PointLemmas.{AreReadBefore, all_read, is_read, none_read, not_read}
use Rattle.si_bounds.proofs.points.reading.Goals as goal

pub loop-table-init : goal.loop-table-init
loop-table-init c = subst (AreReadBefore c.args.tables.now c.args.place 0) (sym c.new-read.ensures.items)
    (none_read c.args.tables.now c.args.place)

pub loop-table-preserved-then-not-reads : goal.loop-table-preserved-then-not-reads
loop-table-preserved-then-not-reads c =
    not_read c.args.tables.now c.args.place c.loop-table.table-index c.loop-table.read.items c.loop-table.invariant
    (c.reads.ensures c.if-not-reads.true)

pub loop-table-preserved : goal.loop-table-preserved
loop-table-preserved c =
    is_read c.args.tables.now c.args.place c.loop-table.table-index c.loop-table.read.items c.push.new.self.items
    c.loop-table-test.true c.loop-table.invariant c.in_ok-push.ensures.items

pub returns-clause-others : goal.returns-clause-others
returns-clause-others c =
    all_read c.args.tables.now c.args.place c.loop-table.table-index c.loop-table.read.items c.loop-table-test.false
    c.loop-table.invariant
