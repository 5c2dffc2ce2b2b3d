use Rattle.std.proofs.Common.{◌∙◌, sym, arith}
use Rattle.std.proofs.lemmas.Bool.{true≢false}
use Rattle.si_graph.specs.Closure.{IsNext}
use Rattle.si_graph.proofs.SearchLemmas.{in_below}
use Rattle.si_candidates.proofs.PartLemmas.{next_none, next_more, next_pass, next_all}
use Rattle.si_candidates.proofs.parts.follow_each.Goals as goal
use Rattle.si_candidates.proofs.parts.follow_each.Goals.{then-has+in_ok-follow, else-has}

pub loop-k-init : goal.loop-k-init
loop-k-init c = next_none (IsNext c.args.graph.now c.args.along.now c.args.within.now) c.args.set.now _ _

pub loop-k-preserved : goal.loop-k-preserved
loop-k-preserved c =
    let Next = IsNext c.args.graph.now c.args.along.now c.args.within.now in
    let set = c.args.set.now in
    elim c.if-has.branch [
      | then-has+in_ok-follow w ↦ rw w.search-is
          (next_more Next set c.loop-k.k _ _ _ _ _ _ (sym c.has.ensures ∙ w.if-has.true) c.loop-k.invariant
          w.in_ok-follow.ensures)
      | else-has w ↦ rw w.search-is
          (next_pass Next set c.loop-k.k _ _ _ _
          (λ there. true≢false (sym there ∙ sym c.has.ensures ∙ w.if-has.false)) c.loop-k.invariant)
    ]

pub returns : goal.returns
returns c =
    let set = c.args.set.now in
    next_all (IsNext c.args.graph.now c.args.along.now c.args.within.now) set c.loop-k.k _ _ _ _
    (λ s there. (let below = in_below set s there in
    omega (arith, below, c.loop-k-test.false, c.size-k-end.ensures))) c.loop-k.invariant
