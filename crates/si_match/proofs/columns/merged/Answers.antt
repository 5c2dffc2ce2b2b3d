use Rattle.si_match.proofs.ColumnLemmas.{merged_bit}
use Rattle.si_match.proofs.columns.merged.Goals as goal

pub returns : goal.returns
returns c m = merged_bit c.args.literal c.args.if_false c.args.if_true m
