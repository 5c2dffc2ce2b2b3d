use Rattle.si_checks.proofs.ByCodesExist.{some_codes}
use Rattle.si_checks.proofs.laws.consistent_graphs_have_codes.Goals as goal

pub returns : goal.returns
returns c = some_codes
