use Rattle.std.proofs.Common.{◌≤◌, subst, sym}
use Rattle.si_cell.specs.Limits.{table_codes}
use Rattle.si_match.proofs.ColumnLemmas.{columns_in_byte, few_columns}
use Rattle.si_match.proofs.columns.column_count.Goals as goal

pub returns-clause-count : goal.returns-clause-count
returns-clause-count c = columns_in_byte c.args.pins c.requires

pub returns-clause-few : goal.returns-clause-few
returns-clause-few c =
    subst (λ n. n ≤ table_codes) (sym (columns_in_byte c.args.pins c.requires)) (few_columns c.args.pins c.requires)
