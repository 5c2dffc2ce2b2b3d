use Rattle.std.proofs.Common.{◌≡◌, [], ◌∷◌, ◌++◌, ap, sym, ◌∙◌}
use Rattle.std.proofs.lemmas.Bool.{true≢false}
use Rattle.si_loops.proofs.SplitLemmas.{all_gone, one_cut, one_kept}
use Rattle.si_loops.proofs.cut.cut_loops.Goals as goal
use Rattle.si_loops.proofs.cut.cut_loops.Goals.{then-lead+in_ok-push, else-lead+in_ok-add}

pub loop-arc-preserved : goal.loop-arc-preserved
loop-arc-preserved c = elim c.if-lead.branch [
  | then-lead+in_ok-push w ↦
      (let cut_are : c.if-lead.cut.items ≡ c.loop-arc.cut.items ++ c.arc-item.result ∷ [] =
      ap (λ v. v.items) w.cut-is ∙ w.in_ok-push.ensures.items in
      rw (w.kept-is, cut_are) (one_cut c.args.arcs.now c.loop-arc.kept c.loop-arc.cut.items c.loop-arc.arc-index
      c.arc-item.result c.loop-arc-test.true c.arc-item.is (c.lead.ensures.0 w.if-lead.true) c.loop-arc.invariant))
  | else-lead+in_ok-add w ↦
      (let kept_are : c.if-lead.kept ≡ c.loop-arc.kept ++ c.arc-item.result ∷ [] = w.kept-is ∙ w.in_ok-add.ensures in
      rw (kept_are, w.cut-is) (one_kept c.args.arcs.now c.loop-arc.kept c.loop-arc.cut.items c.loop-arc.arc-index
      c.arc-item.result c.loop-arc-test.true c.arc-item.is (λ leads. true≢false (sym (c.lead.ensures.1 leads) ∙ w.if-lead.false))
      c.loop-arc.invariant))
]

pub returns : goal.returns
returns c = rw c.into_arcs.ensures
    (all_gone c.args.arcs.now c.loop-arc.kept c.loop-arc.cut.items c.loop-arc.arc-index c.loop-arc-test.false
    c.loop-arc.invariant)
