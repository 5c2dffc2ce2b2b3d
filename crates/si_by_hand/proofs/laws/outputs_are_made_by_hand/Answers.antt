use Rattle.si_by_hand.proofs.ByHandTexts as texts
use Rattle.si_by_hand.proofs.laws.outputs_are_made_by_hand.Goals as goal

pub returns : goal.returns
returns c = texts.outputs_are_made_by_hand
