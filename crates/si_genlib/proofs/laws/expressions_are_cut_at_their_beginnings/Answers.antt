use Rattle.si_genlib.proofs.GrammarViableLaws.{cuts}
use Rattle.si_genlib.proofs.laws.expressions_are_cut_at_their_beginnings.Goals as goal

pub returns : goal.returns
returns c = cuts
