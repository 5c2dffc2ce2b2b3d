use Rattle.std.proofs.Common.{◌+◌, ◌∙◌, ℕ, [], length, ap, sym, subst}
use Rattle.si_base.specs.declared.graph.Edge.{Edge}
use Rattle.si_graph.specs.Loops.Arcs.{IsFirstPlace, IsInto, edge_at}
use Rattle.si_graph.proofs.ClosureLemmas.{stands_first}
use Rattle.si_closures.specs.Loops.WordSearch.{column, HasBit}
use Rattle.si_divisor.specs.Loops.ManySwitching.{BelongsTo, IsTurn}
use Rattle.si_divisor.proofs.SwitchTurns.{ComesBack, back_later, grows_both, marked_on, turn_on, walk_goes_on}
use Rattle.si_divisor.proofs.SwitchTurns.{walk_ends}
use Rattle.si_divisor.proofs.switching.follow_into.Goals as goal

pub follow_back-requires-clause-turn : goal.follow_back-requires-clause-turn
follow_back-requires-clause-turn c =
    let g = c.args.graph.now in
    let highs = c.args.highs.now in
    let sets = c.args.sets in
    let stands = rw c.in-Some.is at c.loop-at.invariant.stands in
    let to = ap (λ (a : Edge). a.to) c.edge-arc.ensures.edge ∙ stands.1 in
    subst (λ (t : ℕ). IsTurn g highs sets t c.loop-at.work) (sym to)
    (turn_on g highs sets c.args.x c.args.work.now c.loop-at.work c.loop-at.invariant.grows c.requires)

pub loop-at-preserved : goal.loop-at-preserved
loop-at-preserved c =
    let g = c.args.graph.now in
    let highs = c.args.highs.now in
    let sets = c.args.sets in
    let x = c.args.x in
    let n = c.in-Some.k in
    let old = c.args.work.now in
    let mid = c.loop-at.work in
    let new = c.follow_back.new.work in
    let after = c.next_in-at.result in
    let B = BelongsTo g highs in
    let grown = c.loop-at.invariant.grows in
    let stands = rw c.in-Some.is at c.loop-at.invariant.stands in
    let passed = rw c.in-Some.is at c.loop-at.invariant.passed in
    let First : ℕ → Type 0 = λ t. IsFirstPlace (IsInto g.edges t) (n + 1) (length g.edges) after in
    let next = subst First stands.1 c.next_in-at.ensures in
    let here : (k t : ℕ) → ComesBack g highs sets old k (edge_at g.edges n) t → HasBit new.words k t = λ k t q.
    c.follow_back.ensures.done k t q.0 (back_later g (column k highs) (column k old.words)
    (column k mid.words) (marked_on B old mid grown k) c.edge-arc.result t
    (subst (λ (a : Edge). ComesBack g highs sets old k a t) (sym c.edge-arc.ensures.edge) q).1) in
    record {
      grows = grows_both B B B old mid new (λ k t b. b) (λ k t b. b) grown c.follow_back.ensures.grows;
      stands = stands_first g [] x (n + 1) after next;
      passed = walk_goes_on g (ComesBack g highs sets old) B x n after mid new next here c.follow_back.ensures.grows
          passed;
    }

pub returns-clause-done : goal.returns-clause-done
returns-clause-done c arc there into k t has follows =
    let g = c.args.graph.now in
    walk_ends g (ComesBack g c.args.highs.now c.args.sets c.args.work.now) c.args.x c.loop-at.work
    (rw c.in_default.is at c.loop-at.invariant.passed) arc there into k t (has, follows)
