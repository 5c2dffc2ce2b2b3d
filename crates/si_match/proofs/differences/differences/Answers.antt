use Rattle.std.proofs.Common.{◌∙◌, true, false, List, ℕ, subst, take}
use Rattle.std.proofs.lemmas.List.{take_all}
use Rattle.si_match.specs.Loops.Differences.{AreJoined}
use Rattle.si_match.proofs.DifferenceLemmas.{AreBetween, all_differences, more_between, next_taken, sorted_codes}
use Rattle.si_match.proofs.differences.differences.Goals as goal

pub loop-code-preserved : goal.loop-code-preserved
loop-code-preserved c =
    let on = c.deref-code-items.result.now in
    let off = c.in_order-off.result.items in
    let so_far = c.loop-code.differences.items in
    let more = c.add_differences.new.differences.items in
    let taken = next_taken on c.loop-code.code-index c.code-item.result c.loop-code-test.true c.code-item.is in
    let joined = subst (λ (xs : List ℕ). AreJoined so_far c.code-item.result xs c.args.triggers more)
    c.deref.ensures.value c.in_ok-add_differences.ensures in
    subst (λ (xs : List ℕ). AreBetween xs off c.args.triggers more) taken
    (more_between off c.args.triggers (take c.loop-code.code-index on) c.code-item.result so_far more
    c.loop-code.invariant joined)

pub returns : goal.returns
returns c =
    let coded = c.args.coded.now in
    let on = c.in_order-on.result.items in
    let off = c.in_order-off.result.items in
    let found = c.loop-code.differences.items in
    let on_are = sorted_codes coded c.args.z true c.args.signals c.in_ok-codes_with.field-0.items on
    c.in_ok-codes_with.ensures c.in_order-on.ensures.same in
    let off_are = sorted_codes coded c.args.z false c.args.signals c.in_ok-codes_with-2.field-0.items off
    c.in_ok-codes_with-2.ensures c.in_order-off.ensures.same in
    let all = take_all c.loop-code.code-index c.deref-code-items.result.now c.loop-code-test.false in
    all_differences coded c.args.z c.args.signals c.args.triggers on off found on_are off_are
    (subst (λ (xs : List ℕ). AreBetween xs off c.args.triggers found) (all ∙ c.deref-code-items.ensures.value)
    c.loop-code.invariant)
