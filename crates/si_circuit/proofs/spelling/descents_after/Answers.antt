use Rattle.std.proofs.Common.{◌∙◌}
use Rattle.si_circuit.proofs.SpellingWords.{copy_within}
use Rattle.si_circuit.proofs.spelling.descents_after.Goals as goal

pub copy_descent-requires-clause-within : goal.copy_descent-requires-clause-within
copy_descent-requires-clause-within c =
    copy_within c.args.classes.now c.deref-x-items.result.now _ c.loop-x.x-index c.x-item.result
    (c.deref-x-items.ensures.value ∙ c.in_ok-copies.ensures) c.requires.count c.loop-x-test.true c.x-item.is
