use Rattle.std.proofs.Common.{◌≡◌, ◌∙◌, ◌+◌, ◌<◌, sym, ap, subst, ℕ, length, rules}
use Rattle.si_base.specs.Bits.{ones}
use Rattle.si_match.specs.Loops.Dropping.{AreTried}
use Rattle.si_match.proofs.DroppingLemmas.{triggers_are_support, none_tried, own_is_support, own_tried}
use Rattle.si_match.proofs.support.support_from.Goals as goal

pub returns-then-branch : goal.returns-then-branch
returns-then-branch c =
    triggers_are_support c.args.coded.now c.args.z c.requires.coded c.args.triggers c.requires.triggers
    (sym c.in_ok-determine.ensures ∙ c.if-branch.true)

pub kept_signals-requires-clause-tried : goal.kept_signals-requires-clause-tried
kept_signals-requires-clause-tried c =
    let count : length c.signals-count.result.now ≡ length c.args.coded.now.graph.signals = search rules in
    none_tried c.args.coded.now c.args.z c.requires.coded c.ones.result (c.ones.ensures ∙ ap ones count)

pub returns-then-not-branch-2 : goal.returns-then-not-branch-2
returns-then-not-branch-2 c =
    let count : length c.signals-count.result.now ≡ length c.args.coded.now.graph.signals = search rules in
    own_is_support c.args.coded.now c.args.z c.requires.coded c.args.triggers c.requires.triggers c.set-own.result
    c.with_later-later.result c.set-own.ensures c.requires.signal
    (λ j low high. c.with_later-later.ensures.later j low (subst (λ (n : ℕ). j < n) (sym count) high))
    (λ j beyond. c.with_later-later.ensures.others j
    (λ low high. beyond low (subst (λ (n : ℕ). j < n) count high)))
    (sym c.in_ok-determine-2.ensures ∙ c.if-not-branch.false)
    (sym c.in_ok-determine-3.ensures ∙ c.if-not-branch-2.true)

pub kept_signals-requires-2-clause-tried : goal.kept_signals-requires-2-clause-tried
kept_signals-requires-2-clause-tried c =
    let count : length c.signals-count.result.now ≡ length c.args.coded.now.graph.signals = search rules in
    subst (λ (n : ℕ). AreTried c.args.coded.now c.args.z (n + 1) c.with_later-later.result) (sym c.z.view_is)
    (own_tried c.args.coded.now c.args.z c.requires.coded c.args.triggers c.requires.triggers c.set-own.result
    c.with_later-later.result c.set-own.ensures c.requires.signal
    (λ j low high. c.with_later-later.ensures.later j low (subst (λ (n : ℕ). j < n) (sym count) high))
    (λ j beyond. c.with_later-later.ensures.others j
    (λ low high. beyond low (subst (λ (n : ℕ). j < n) count high)))
    (sym c.in_ok-determine-2.ensures ∙ c.if-not-branch.false)
    (sym c.in_ok-determine-3.ensures ∙ c.if-not-branch-2.false))
