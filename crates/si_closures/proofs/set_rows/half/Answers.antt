use Rattle.si_closures.proofs.RowLemmas.{half_bit}
use Rattle.si_closures.proofs.set_rows.half.Goals as goal

pub returns : goal.returns
returns c i low = half_bit c.args.row c.args.upper i low
