use Rattle.std.proofs.Common.{List, ℕ, ◌+◌, drop, sym, subst, ◌∙◌}
use Rattle.si_equations.specs.Equations.{without}
use Rattle.si_equations_reader.proofs.ListLemmas.{GoOn, kept_next, skipped}
use Rattle.si_equations_reader.proofs.lists.inputs_of.Goals.{then-not-has+in_ok-push, else-not-has}
use Rattle.si_equations_reader.proofs.lists.inputs_of.Goals as goal

pub push-requires-clause-new : goal.push-requires-clause-new
push-requires-clause-new c = (kept_next c.args.outputs.now c.loop-k.inputs c.args.listed.now
    (without c.args.outputs.now c.args.listed.now) c.loop-k.k c.get-name.result.now c.get-name.ensures
    c.loop-k.invariant (sym c.has.ensures ∙ c.if-not-has.true)).new

pub push-requires-clause-room : goal.push-requires-clause-room
push-requires-clause-room c = (kept_next c.args.outputs.now c.loop-k.inputs c.args.listed.now
    (without c.args.outputs.now c.args.listed.now) c.loop-k.k c.get-name.result.now c.get-name.ensures
    c.loop-k.invariant (sym c.has.ensures ∙ c.if-not-has.true)).room

pub loop-k-preserved : goal.loop-k-preserved
loop-k-preserved c =
    let all = without c.args.outputs.now c.args.listed.now in
    let left = without c.args.outputs.now (drop (c.loop-k.k + 1) c.args.listed.now) in
    elim c.if-not-has.branch [
      | then-not-has+in_ok-push w ↦ subst (λ (l : List (List ℕ)). GoOn l left all)
          (sym (w.inputs-is ∙ w.in_ok-push.ensures))
          (kept_next c.args.outputs.now c.loop-k.inputs c.args.listed.now all c.loop-k.k c.get-name.result.now
          c.get-name.ensures c.loop-k.invariant (sym c.has.ensures ∙ w.if-not-has.true)).later
      | else-not-has w ↦ subst (λ (l : List (List ℕ)). GoOn l left all) (sym w.inputs-is)
          (skipped c.args.outputs.now c.loop-k.inputs c.args.listed.now all c.loop-k.k c.get-name.result.now
          c.get-name.ensures c.loop-k.invariant (sym c.has.ensures ∙ w.if-not-has.false))
    ]
