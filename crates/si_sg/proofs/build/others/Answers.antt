use Rattle.std.proofs.Common.{◌∙◌, sym, ap, true≢false}
use Rattle.si_base.specs.Sets.{IsIn}
use Rattle.si_sg.proofs.OtherLemmas.{others_none, others_more, others_pass}
use Rattle.si_sg.proofs.build.others.Goals as goal
use Rattle.si_sg.proofs.build.others.Goals.{then-not-has+in_ok-push, else-not-has}

pub loop-s-init : goal.loop-s-init
loop-s-init c = rw c.new-others.ensures.items (others_none (IsIn c.args.set.now))

pub loop-s-preserved : goal.loop-s-preserved
loop-s-preserved c = elim c.if-not-has.branch [
  | then-not-has+in_ok-push w ↦ others_more (IsIn c.args.set.now) c.loop-s.s c.loop-s.others.items _ c.loop-s.invariant
      (λ has. true≢false (sym has ∙ sym c.has.ensures ∙ w.if-not-has.true))
      (ap (λ v. v.items) w.others-is ∙ w.in_ok-push.ensures.items)
  | else-not-has w ↦ rw w.others-is (others_pass (IsIn c.args.set.now) c.loop-s.s c.loop-s.others.items
      c.loop-s.invariant (sym c.has.ensures ∙ w.if-not-has.false))
]
