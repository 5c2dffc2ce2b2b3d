use Rattle.std.proofs.Common.{ℕ, ◌∙◌, [], ap, rules}
use Rattle.si_base.specs.Netlist.{sum_value}
use Rattle.si_match.proofs.ColumnLemmas.{one_column_more}
use Rattle.si_match.proofs.columns.columns_of.Goals as goal

pub loop-code-preserved : goal.loop-code-preserved
loop-code-preserved c =
    let code = c.loop-code.code in
    let value = c.value-value.ensures ∙ ap (λ (k : ℕ). sum_value k c.args.cell.now.sum) c.from.ensures in
    record {
      count = search rules;
      columns = one_column_more c.args.cell.now [] c.loop-code.columns.items c.loop-code.invariant.columns
          c.constant_column.result code c.push.new.self.items c.loop-code.invariant.count c.push.ensures.items
          (λ m below. c.constant_column.ensures m below ∙ value);
    }
