use Rattle.std.proofs.Common.{◌≡◌, ◌<◌, ◌≤◌, ◌∙◌, [], length, rules, subst, sym}
use Rattle.si_match.specs.Loops.Columns.{AreColumns}
use Rattle.si_match.proofs.FunctionLemmas.{next_cell, all_cells}
use Rattle.si_match.proofs.functions.all_tables.Goals as goal

pub loop-k-preserved : goal.loop-k-preserved
loop-k-preserved c =
    let cell = c.cell-cell.result.now in
    let within : c.loop-k.k < length c.args.library.now.cells = search rules in
    let count : c.len.result ≡ length cell.pins = search rules in
    let columns = subst (AreColumns cell []) (sym c.as_slice.ensures.value) c.columns_of-columns.ensures.columns in
    c.in_ok-add_tables.ensures cell [] columns ∙ next_cell c.args.library.now c.loop-k.k cell c.len.result
    c.loop-k.tables.items c.pins-allowed.result c.pins-allowed.ensures within c.cell-cell.ensures.cell count c.loop-k.invariant

pub returns-clause-tables : goal.returns-clause-tables
returns-clause-tables c =
    let past : length c.args.library.now.cells ≤ c.loop-k.k = search rules in
    c.loop-k.invariant ∙ all_cells c.args.library.now c.loop-k.k past
