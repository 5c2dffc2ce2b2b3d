use Rattle.std.proofs.Common.{◌≡◌, ◌∙◌, not, ap, arith, unwrap_or}
use Rattle.std.proofs.lemmas.Bool.{le-ltb, lt-ltb}
use Rattle.si_conflicts.specs.Loops.Crowds.{code_count}
use Rattle.si_conflicts.proofs.CrowdLemmas.{crowded_kept, crowded_passed, in_crowd}
use Rattle.si_conflicts.proofs.crowds.crowded_members.Goals as goal
use Rattle.si_conflicts.proofs.crowds.crowded_members.Goals.{then-states-least+in_ok-push, else-states-least}

pub loop-m-preserved : goal.loop-m-preserved
loop-m-preserved c =
    let members = c.args.members.now in
    let least = c.args.least in
    let i = c.loop-m.m-index in
    let m = c.m-item.result in
    let states : c.unwrap_or-states.result ≡ code_count members m.key.code =
    c.unwrap_or-states.ensures ∙ ap (λ o. unwrap_or o 0) (c.copied.ensures ∙ c.get.ensures.value)
    ∙ c.in_ok-sizes.ensures m.key.code in
    let is : record { state = m.state; crowd = record { code = m.key.code; states = c.unwrap_or-states.result } }
    ≡ in_crowd members m =
    λ j. record { state = m.state; crowd = record { code = m.key.code; states = states j } } in
    elim c.if-states-least.branch [
      | then-states-least+in_ok-push w ↦ rw (w.crowded-is, w.in_ok-push.ensures.items)
          (crowded_kept members least i m c.loop-m.crowded.items _ c.loop-m-test.true c.m-item.is
          c.loop-m.invariant is
          (ap not (le-ltb (code_count members m.key.code) least (omega (arith, states, w.if-states-least.true)))))
      | else-states-least w ↦ rw w.crowded-is
          (crowded_passed members least i m c.loop-m.crowded.items c.loop-m-test.true c.m-item.is c.loop-m.invariant
          (ap not (lt-ltb (code_count members m.key.code) least (omega (arith, states, w.if-states-least.false)))))
    ]
