use Rattle.std.proofs.Common.{length, sym, ap, ◌∙◌}
use Rattle.si_base.proofs.SetsAsWords.{flag_count}
use Rattle.si_base.proofs.sets.StateSet.size.Goals as goal

pub returns : goal.returns
returns c = sym (flag_count c.self.inside.states c.self.inside.words.items) ∙ ap length c.self.view_is
