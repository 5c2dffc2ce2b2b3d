use Rattle.si_resettable.proofs.OutcomeLemmas.{one_text, some_text}
use Rattle.si_resettable.proofs.laws.texts_are_one.Goals as goal

pub returns : goal.returns
returns c = record { one = one_text; some = some_text }
