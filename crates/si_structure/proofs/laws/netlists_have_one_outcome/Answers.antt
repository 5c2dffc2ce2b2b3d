use Rattle.si_structure.proofs.OutcomeLemmas.{one_refusal, none_of_structured}
use Rattle.si_structure.proofs.NetlistDecisions.{some_outcome}
use Rattle.si_structure.proofs.laws.netlists_have_one_outcome.Goals as goal

pub returns : goal.returns
returns c = record { reasons = one_refusal; texts = none_of_structured; exist = some_outcome }
