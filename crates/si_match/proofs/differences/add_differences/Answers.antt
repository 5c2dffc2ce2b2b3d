use Rattle.std.proofs.Common.{◌∙◌, List, ℕ, ap, bit_and, subst, sym, take}
use Rattle.std.proofs.lemmas.List.{take_all}
use Rattle.si_match.specs.Loops.Differences.{AreJoined}
use Rattle.si_match.proofs.DifferenceLemmas.{next_taken, passed_over, one_joined, same_difference}
use Rattle.si_match.proofs.differences.add_differences.Goals as goal

pub loop-other-preserved-then-cut-ne0 : goal.loop-other-preserved-then-cut-ne0
loop-other-preserved-then-cut-ne0 c =
    let before = c.args.differences.now.items in
    let so_far = c.loop-other.differences.items in
    let taken = next_taken c.args.others.now c.loop-other.other-index c.other-item.result c.loop-other-test.true
    c.other-item.is in
    let difference = same_difference _ _ _ _ c.code.view_is c.other.view_is in
    subst (λ (xs : List ℕ). AreJoined before c.args.code xs c.args.triggers so_far) taken
    (passed_over before c.args.code c.args.triggers (take c.loop-other.other-index c.args.others.now)
    c.other-item.result so_far c.loop-other.invariant
    (λ clear. c.if-cut-ne0.true (c.cut-in-loop-other.view_is ∙ c.cut.ensures
    ∙ ap (λ (d : ℕ). bit_and d c.args.triggers) difference ∙ clear)))

pub loop-other-preserved : goal.loop-other-preserved
loop-other-preserved c =
    let before = c.args.differences.now.items in
    let more = c.push.new.self.items in
    let taken = next_taken c.args.others.now c.loop-other.other-index c.other-item.result c.loop-other-test.true
    c.other-item.is in
    let difference = same_difference _ _ _ _ c.code.view_is c.other.view_is in
    subst (λ (xs : List ℕ). AreJoined before c.args.code xs c.args.triggers more) taken
    (one_joined before c.args.code c.args.triggers (take c.loop-other.other-index c.args.others.now)
    c.other-item.result c.loop-other.differences.items c.loop-other.invariant _ difference more
    (sym c.cut.ensures ∙ sym c.cut-in-loop-other.view_is ∙ c.if-cut-ne0.false) c.in_ok-push.ensures.items)

pub returns : goal.returns
returns c =
    subst (λ (xs : List ℕ). AreJoined c.args.differences.now.items c.args.code xs c.args.triggers
    c.loop-other.differences.items) (take_all c.loop-other.other-index c.args.others.now c.loop-other-test.false)
    c.loop-other.invariant
