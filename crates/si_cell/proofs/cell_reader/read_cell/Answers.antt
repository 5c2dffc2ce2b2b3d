use Rattle.std.proofs.Common.{Some, subst, sym, ap, ◌∙◌}
use Rattle.si_words.proofs.FaultLemmas.{both}
use Rattle.si_cell.specs.CellWords.{cell_name_fault}
use Rattle.si_cell.specs.Library.{IsCell}
use Rattle.si_cell.specs.LibraryText as text
use Rattle.si_cell.specs.Loops.Reads.{cell_words_now}
use Rattle.si_cell.proofs.CellLemmas.{few_declared, fault_before_sum, cell_read, good_name}
use Rattle.si_cell.proofs.cell_reader.read_cell.Goals as goal

pub returns-in-Err-clause-fault : goal.returns-in-Err-clause-fault
returns-in-Err-clause-fault c = fault_before_sum (text.names_of c.args.cells.now)
    (cell_words_now c.args.front.now c.args.words.now) c.in-Err.fault c.in_ok-line_fault-in-Err.field-0
    c.in_ok-line_fault-in-Err.ensures c.in-Err.ensures.fault

pub read_sum-requires : goal.read_sum-requires
read_sum-requires c = few_declared (text.names_of c.args.cells.now) (cell_words_now c.args.front.now c.args.words.now)
    c.in-Ok.declared c.in-Ok.ensures.fault c.in-Ok.ensures.value

pub returns-clause-cell : goal.returns-clause-cell
returns-clause-cell c = subst IsCell (sym c.new.ensures) (cell_read (text.names_of c.args.cells.now)
    (cell_words_now c.args.front.now c.args.words.now) c.in-Ok.declared c.in_ok-name.name c.in_ok-pins.pins.items
    c.in-Ok-sum.sum c.in-Ok.ensures.fault c.in-Ok.ensures.value
    (sym c.in_ok-sum.ensures ∙ c.in-Some.is ∙ ap (λ r. Some r) c.in-Ok-sum.is) c.in_ok-name.ensures
    (rw c.deref.ensures.value at c.in_ok-pins.ensures))

pub returns-clause-new : goal.returns-clause-new
returns-clause-new c = rw (c.new.ensures, c.in_ok-name.ensures) (good_name (text.names_of c.args.cells.now)
    c.args.front.now.name.now (both (cell_name_fault (text.names_of c.args.cells.now) c.args.front.now.name.now) _
    c.in-Ok.ensures.fault).0).1
