use Rattle.std.proofs.Common.{◌≡◌, ◌∙◌, ◌++◌, ◌∷◌, [], ap, arith, rules}
use Rattle.si_base.specs.Proper.{Split, split_place}
use Rattle.si_breaches.specs.Breaches.{IsSplit}
use Rattle.si_breaches.specs.Loops.Breaches.{IsSecond}
use Rattle.si_told.proofs.Alls.{all_added, first_more, first_all}
use Rattle.si_breaches.proofs.SplitLemmas.{split_order, split_here, split_pass, split_each, none_first}
use Rattle.si_breaches.proofs.splits.splits.Goals as goal
use Rattle.si_breaches.proofs.splits.splits.Goals.{in-Some+in_ok-push, in_default}

pub loop-k-init : goal.loop-k-init
loop-k-init c = (
  rw c.new-found.ensures.items (none_first c.args.graph.now c.arcs-arcs.result.now c.arcs-arcs.ensures.graph
      c.arcs-arcs.ensures.arcs []),
  omega arith,
)

pub loop-k-preserved : goal.loop-k-preserved
loop-k-preserved c =
    let g = c.args.graph.now in
    let arcs = c.arcs-arcs.result.now in
    let is = c.arcs-arcs.ensures.graph in
    let same = c.arcs-arcs.ensures.arcs in
    let k = c.loop-k.k in
    let x = c.index-arcs-k.result in
    let y = c.index-arcs-k-in-loop-k.result in
    let old = c.loop-k.found.items in
    let above = c.loop-k.invariant.1 in
    let within = c.loop-k-test.true in
    let more = first_more split_place (IsSplit g) IsSecond arcs (split_order g arcs is same) k y [] old in
    elim c.match-split_by.branch [
      | in-Some+in_ok-push w ↦ (
          let new : c.match-split_by.found.items ≡ w.push.new.self.items = search rules in (
            more c.match-split_by.found.items within c.index-arcs-k-in-loop-k.is c.loop-k.invariant.0
                (split_here g arcs is same k x y above within c.index-arcs-k.is c.index-arcs-k-in-loop-k.is old
                c.match-split_by.found.items w.in-Some.ensures.1 (new ∙ w.in_ok-push.ensures.items
                ∙ ap (λ (b : Split). old ++ b ∷ []) w.in-Some.ensures.0)),
            omega (arith, above),
          ))
      | in_default w ↦ (
          let kept : c.match-split_by.found.items ≡ old = search rules in (
            rw kept (more old within c.index-arcs-k-in-loop-k.is c.loop-k.invariant.0
                (split_pass g arcs is same k x y above within c.index-arcs-k.is c.index-arcs-k-in-loop-k.is old
                w.in_default.ensures)),
            omega (arith, above),
          ))
    ]

pub returns : goal.returns
returns c =
    let g = c.args.graph.now in
    let arcs = c.arcs-arcs.result.now in
    let is = c.arcs-arcs.ensures.graph in
    let same = c.arcs-arcs.ensures.arcs in
    all_added split_place (IsSplit g) c.loop-k.found.items
    (first_all split_place (IsSplit g) IsSecond arcs (split_order g arcs is same) c.loop-k.k []
    c.loop-k.found.items c.loop-k-test.false (split_each g arcs is same) c.loop-k.invariant.0)
