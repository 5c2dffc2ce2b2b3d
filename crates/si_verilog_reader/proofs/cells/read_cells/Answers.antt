use Rattle.std.proofs.lemmas.Result.{err_from_is_err_and}
use Rattle.si_verilog_reader.proofs.CellLemmas.{one_more, fails}
use Rattle.si_verilog_reader.proofs.cells.read_cells.Goals as goal

pub loop-preserved : goal.loop-preserved
loop-preserved c = one_more c.args.count c.loop.counter c.loop.cells.items c.loop.source _ c.loop.invariant
    c.push.new.self.items c.in_ok-cell.cell c.read_cell.new.source c.loop-test.true c.in_ok-push.ensures.items
    (rw c.as_slice.ensures.value at c.in_ok-cell.ensures)

pub returns-in_err-cell : goal.returns-in_err-cell
returns-in_err-cell c =
    let p = err_from_is_err_and c.from_residual.result c.from_residual.ensures.1 in
    rw (p.1, p.2) (fails c.args.count c.loop.counter c.loop.cells.items c.loop.source _ c.loop.invariant
    c.in_err-cell.field-0.0 c.loop-test.true (rw c.as_slice.ensures.value at c.in_err-cell.ensures))
