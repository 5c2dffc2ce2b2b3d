use Rattle.std.proofs.Common.{◌≡◌, length, sym, ap, subst, ◌∙◌}
use Rattle.si_base.specs.Sets.{AreFlags, flags_of}
use Rattle.si_base.proofs.SetsAsWords.{flag_count}
use Rattle.si_base.proofs.sets.StateSet.words.Goals as goal

pub returns-clause-flags : goal.returns-clause-flags
returns-clause-flags c =
    let size : c.self.inside.states ≡ length c.args.self.now =
    sym (flag_count c.self.inside.states c.self.inside.words.items) ∙ ap length c.self.view_is in
    subst (AreFlags _) (sym c.as_slice.ensures.value)
    (subst (λ n. AreFlags n c.self.inside.words.items) size c.self.invariant)

pub returns-clause-told : goal.returns-clause-told
returns-clause-told c =
    let size : c.self.inside.states ≡ length c.args.self.now =
    sym (flag_count c.self.inside.states c.self.inside.words.items) ∙ ap length c.self.view_is in
    sym c.self.view_is ∙ ap (λ n. flags_of n c.self.inside.words.items) size
    ∙ ap (flags_of _) (sym c.as_slice.ensures.value)
