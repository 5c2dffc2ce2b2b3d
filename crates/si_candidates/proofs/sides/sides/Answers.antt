use Rattle.std.proofs.Common.{◌≡◌, ◌∙◌, sym, ap₂, subst}
use Rattle.si_base.specs.Codes.{IsCoded}
use Rattle.si_candidates.specs.Loops.Sides.{differ, side_after}
use Rattle.si_candidates.proofs.SideLemmas.{link_within, sides_other, sides_same}
use Rattle.si_candidates.proofs.sides.sides.Goals as goal
use Rattle.si_candidates.proofs.sides.sides.Goals.{then-differ, else-differ}

pub loop-link-preserved : goal.loop-link-preserved
loop-link-preserved c =
    let g = c.args.graph.now.graph in
    let tree = c.args.tree.now in
    let block = c.args.set.now in
    let old = c.loop-link.sides in
    let n = c.loop-link.link-index in
    let l = c.link-item.result in
    let inside = c.loop-link-test.true in
    let at = c.link-item.is in
    let is = c.requires.tree in
    let graph = (subst IsCoded c.coded.ensures.same c.graph-g.ensures.coded).graph_is in
    let side : side_after block old l ≡ c.differ.result =
    sym (c.differ.ensures ∙ ap₂ differ c.has.ensures c.leaves.ensures) in
    elim c.if-differ.branch [
      | then-differ w ↦ rw (w.sides-is, w.add.ensures) (sides_other g tree is block n l inside at old
          c.loop-link.invariant (link_within g tree is block graph n l inside at).1 (side ∙ w.if-differ.true))
      | else-differ w ↦ rw w.sides-is (sides_same g tree is block n l inside at old
          c.loop-link.invariant (side ∙ w.if-differ.false))
    ]
