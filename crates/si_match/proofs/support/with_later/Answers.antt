use Rattle.std.proofs.Common.{◌∙◌, ℕ, ◌+◌, ap}
use Rattle.si_base.specs.Bits.{bit, ones}
use Rattle.si_match.proofs.DroppingLemmas.{all_behind, same_elsewhere}
use Rattle.si_match.proofs.support.with_later.Goals as goal

pub returns-clause-later : goal.returns-clause-later
returns-clause-later c =
    all_behind c.signals.inside.0 c.args.z c.args.count c.later.inside.0 c.later-2.inside.0
    (c.later.view_is ∙ c.ones.ensures)
    (c.later-2.view_is ∙ c.ones-2.ensures ∙ ap (λ (n : ℕ). ones (n + 1)) c.z.view_is)

pub returns-clause-others : goal.returns-clause-others
returns-clause-others c = λ j beyond. (
    same_elsewhere c.signals.inside.0 c.args.z c.args.count c.later.inside.0 c.later-2.inside.0
    (c.later.view_is ∙ c.ones.ensures)
    (c.later-2.view_is ∙ c.ones-2.ensures ∙ ap (λ (n : ℕ). ones (n + 1)) c.z.view_is) c.requires.within j beyond
    ∙ ap (λ (k : ℕ). bit k j) c.signals.view_is)
