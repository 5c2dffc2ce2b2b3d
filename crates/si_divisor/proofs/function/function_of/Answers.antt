use Rattle.std.proofs.Common.{◌∙◌, ap}
use Rattle.si_cell.specs.Library.{Instance}
use Rattle.si_divisor.proofs.FunctionLemmas.{reads_all, within_all}
use Rattle.si_divisor.proofs.function.function_of.Goals as goal

pub table_of-table-requires-clause-all : goal.table_of-table-requires-clause-all
table_of-table-requires-clause-all c =
    reads_all c.args.instance.now.literals c.as_slice.result.now c.signals_of-signals.result.items
    c.as_slice-2.result.now (c.as_slice.ensures.value ∙ ap (λ (i : Instance). i.literals) c.instance.view_is)
    c.signals_of-signals.ensures.same c.as_slice-2.ensures.value

pub table_of-table-requires-clause-within : goal.table_of-table-requires-clause-within
table_of-table-requires-clause-within c =
    within_all c.args.instance.now.literals c.as_slice.result.now c.signals_of-signals.result.items
    c.as_slice-2.result.now (c.as_slice.ensures.value ∙ ap (λ (i : Instance). i.literals) c.instance.view_is)
    c.signals_of-signals.ensures.same c.as_slice-2.ensures.value c.requires.signals
