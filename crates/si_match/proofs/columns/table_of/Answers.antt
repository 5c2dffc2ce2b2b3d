use Rattle.std.proofs.Common.{◌<◌, ◌^◌, rules}
use Rattle.si_match.proofs.ColumnLemmas.{is_function_table}
use Rattle.si_match.proofs.columns.table_of.Goals as goal

pub returns : goal.returns
returns c cell literals are =
    let small : c.merged.result < 2 ^ 32 = search rules in
    is_function_table cell literals c.args.columns.now are c.requires c.literal_column.result c.merged.result small
    c.literal_column.ensures c.merged.ensures
