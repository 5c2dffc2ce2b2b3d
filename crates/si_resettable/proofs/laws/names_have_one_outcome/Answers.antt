use Rattle.si_resettable.proofs.OutcomeLemmas.{one_refusal, none_with_room, some_outcome}
use Rattle.si_resettable.proofs.laws.names_have_one_outcome.Goals as goal

pub returns : goal.returns
returns c = record { reasons = one_refusal; texts = none_with_room; exist = some_outcome }
