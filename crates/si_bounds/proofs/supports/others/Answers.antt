use Rattle.std.proofs.Common.{◌∙◌, ℕ, ◌+◌, ap, subst}
use Rattle.si_base.specs.Bits.{ones}
use Rattle.si_bounds.specs.Loops.Supports.{AreOthers}
use Rattle.si_bounds.proofs.SupportsLemmas.{others_are}
use Rattle.si_bounds.proofs.supports.others.Goals as goal

pub returns : goal.returns
returns c = subst (λ (k : ℕ). AreOthers k c.args.count c.args.i c.set.result) c.support.view_is
    (others_are c.support.inside.0 c.args.i c.args.count c.later.inside.0 c.later-2.inside.0 c.set.result
    c.requires.within (c.later.view_is ∙ c.ones.ensures)
    (c.later-2.view_is ∙ c.ones-2.ensures ∙ ap (λ (n : ℕ). ones (n + 1)) c.i.view_is) c.set.ensures)
