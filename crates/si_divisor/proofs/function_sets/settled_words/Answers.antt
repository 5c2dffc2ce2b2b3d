use Rattle.std.proofs.Common.{◌≡◌, List, ℕ, true, false, subst, sym}
use Rattle.std.proofs.lemmas.Result.{IfOk-weaker}
use Rattle.si_divisor.specs.Loops.ManyFunctions.{AreForcedWords}
use Rattle.si_divisor.specs.declared.function_sets.SettledWords.{SettledWords}
use Rattle.si_divisor.proofs.function_sets.settled_words.Goals as goal

pub settled_for-requires-clause-up_size : goal.settled_for-requires-clause-up_size
settled_for-requires-clause-up_size c = (rw c.coded.ensures.same at c.in_ok-up.ensures.up).size

pub settled_for-requires-clause-down_size : goal.settled_for-requires-clause-down_size
settled_for-requires-clause-down_size c = (rw c.coded.ensures.same at c.in_ok-up.ensures.down).size

pub returns-clause-up : goal.returns-clause-up
returns-clause-up c =
    let Says : List ℕ → Type 0 = AreForcedWords c.args.graph.now c.args.functions.now true in
    let here = rw c.coded.ensures.same at c.in_ok-up.ensures.up in
    IfOk-weaker c.settled_for.result (λ (r : SettledWords). r.up.items ≡ c.in_ok-up.field-0.up.items)
    (λ (r : SettledWords). Says r.up.items) (λ r kept. subst Says (sym kept) here) c.settled_for.ensures.up

pub returns-clause-down : goal.returns-clause-down
returns-clause-down c =
    let Says : List ℕ → Type 0 = AreForcedWords c.args.graph.now c.args.functions.now false in
    let here = rw c.coded.ensures.same at c.in_ok-up.ensures.down in
    IfOk-weaker c.settled_for.result (λ (r : SettledWords). r.down.items ≡ c.in_ok-up.field-0.down.items)
    (λ (r : SettledWords). Says r.down.items) (λ r kept. subst Says (sym kept) here) c.settled_for.ensures.down
