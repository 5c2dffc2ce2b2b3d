use Rattle.std.proofs.Common.{List, ℕ, ◌++◌, ap, sym, ◌∙◌}
use Rattle.si_structure.proofs.PlacementWriting.{cell_added, cell_skipped}
use Rattle.si_structure.proofs.write.add_cells.Goals as goal

pub loop-cell-preserved-then-not-is_used : goal.loop-cell-preserved-then-not-is_used
loop-cell-preserved-then-not-is_used c =
    ap (λ (t : List ℕ). c.loop-cell.text ++ t)
    (cell_skipped c.args.library.now c.args.netlist.now _ c.loop-cell.cell-index c.cell-item.result
    c.ports-item.result c.loop-cell.all_ports.now c.loop-cell-test.true c.cell-item.is c.in-len1-up.len_at_least
    c.ports-item.is (sym c.if-not-is_used.ensures)) ∙ c.loop-cell.invariant

pub loop-cell-preserved : goal.loop-cell-preserved
loop-cell-preserved c = rw c.in_ok-add_cell.ensures
    (cell_added c.args.library.now c.args.netlist.now _ c.loop-cell.cell-index c.cell-item.result
    c.ports-item.result c.loop-cell.all_ports.now c.loop-cell-test.true c.cell-item.is c.in-len1-up.len_at_least
    c.ports-item.is c.loop-cell.text (sym c.if-not-is_used.ensures) ∙ c.loop-cell.invariant)
