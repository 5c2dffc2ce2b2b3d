use Rattle.si_timing.proofs.Writing.{one_text, some_text}
use Rattle.si_timing.proofs.laws.timing_texts_are_one.Goals as goal

pub returns-clause-one : goal.returns-clause-one
returns-clause-one c = one_text

pub returns-clause-some : goal.returns-clause-some
returns-clause-some c = some_text
