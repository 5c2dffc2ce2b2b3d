use Rattle.std.proofs.Common.{◌∙◌, [], ap}
use Rattle.si_base.specs.Proper.{pair_place}
use Rattle.si_conflicts.specs.Conflicts.{pairs_of}
use Rattle.si_lint.specs.Findings.{IsJoinedOfFirst}
use Rattle.si_told.proofs.Alls.{all_added, first_none, first_more, first_all}
use Rattle.si_lint.proofs.UnresolvableLemmas.{IsOf, pairs_order, pair_states, unresolvable_here, unresolvable_pass}
use Rattle.si_lint.proofs.UnresolvableLemmas.{unresolvable_each, pushed_pair}
use Rattle.si_lint.proofs.unresolvable.joined_of.Goals as goal
use Rattle.si_lint.proofs.unresolvable.joined_of.Goals.{then-is_some+in_ok-push, else-is_some}

pub find_witness-requires-clause-p : goal.find_witness-requires-clause-p
find_witness-requires-clause-p c = (pair_states c.args.coded.now c.args.pairs.now c.requires c.loop-pair.pair-index
    c.pair-item.result c.loop-pair-test.true c.pair-item.is).0

pub find_witness-requires-clause-q : goal.find_witness-requires-clause-q
find_witness-requires-clause-q c = (pair_states c.args.coded.now c.args.pairs.now c.requires c.loop-pair.pair-index
    c.pair-item.result c.loop-pair-test.true c.pair-item.is).1

pub loop-pair-init : goal.loop-pair-init
loop-pair-init c = rw c.new-found.ensures.items (first_none pair_place (IsJoinedOfFirst c.args.coded.now) IsOf
    c.args.pairs.now (pairs_order c.args.coded.now c.args.pairs.now c.requires) [])

pub loop-pair-preserved : goal.loop-pair-preserved
loop-pair-preserved c =
    let d = c.args.coded.now in
    let pairs = c.args.pairs.now in
    let first = c.requires in
    let k = c.loop-pair.pair-index in
    let x = c.pair-item.result in
    let old = c.loop-pair.found.items in
    let inside = c.loop-pair-test.true in
    let at = c.pair-item.is in
    let source = c.in_ok-witness.witness in
    let more = first_more pair_place (IsJoinedOfFirst d) IsOf pairs (pairs_order d pairs first) k x [] (pairs_of old) in
    elim c.if-is_some.branch [
      | then-is_some+in_ok-push w ↦ more _ inside at c.loop-pair.invariant
          (unresolvable_here d pairs first k x source (pairs_of old) _ c.is_some.result inside at
          c.in_ok-witness.ensures c.is_some.ensures w.if-is_some.true
          (pushed_pair old _ x (ap (λ v. v.items) w.found-is ∙ w.in_ok-push.ensures.items)))
      | else-is_some w ↦ rw w.found-is (more (pairs_of old) inside at c.loop-pair.invariant
          (unresolvable_pass d pairs first x source (pairs_of old) c.is_some.result c.in_ok-witness.ensures
          c.is_some.ensures w.if-is_some.false))
    ]

pub returns : goal.returns
returns c =
    let d = c.args.coded.now in
    let pairs = c.args.pairs.now in
    let order = pairs_order d pairs c.requires in
    all_added pair_place (IsJoinedOfFirst d) (pairs_of c.loop-pair.found.items)
    (first_all pair_place (IsJoinedOfFirst d) IsOf pairs order c.loop-pair.pair-index []
    (pairs_of c.loop-pair.found.items) c.loop-pair-test.false (unresolvable_each d pairs c.requires)
    c.loop-pair.invariant)
