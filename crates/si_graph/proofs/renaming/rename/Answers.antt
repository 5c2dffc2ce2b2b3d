use Rattle.std.proofs.Common.{◌∙◌, sym, ap, arith, true≢false}
use Rattle.si_graph.proofs.RenamingLemmas.{Renames-marked, Renames-unmarked}
use Rattle.si_graph.proofs.renaming.rename.Goals as goal
use Rattle.si_graph.proofs.renaming.rename.Goals.{then-has+in_ok-push-2, else-has}

pub loop-s-preserved : goal.loop-s-preserved
loop-s-preserved c = elim c.if-has.branch [
  | then-has+in_ok-push-2 w ↦ Renames-marked _ _ _ c.loop-s.kept.items _ c.loop-s.places.items _
      (omega (arith, c.len.ensures, c.loop-s.kept.ok)) c.loop-s.invariant (sym c.has.ensures ∙ w.if-has.true)
      (ap (λ v. v.items) w.kept-is ∙ w.in_ok-push-2.ensures.items) c.in_ok-push.ensures.items
  | else-has w ↦ rw w.kept-is (Renames-unmarked _ _ _ _ _ _ c.loop-s.invariant
      (λ is. true≢false (sym is ∙ sym c.has.ensures ∙ w.if-has.false)) c.in_ok-push.ensures.items)
]
