use Rattle.std.proofs.Common.{◌≡◌, ◌<◌, ◌↔◌, ◌+◌, ℕ, true, [], length, subst}
use Rattle.si_base.specs.declared.graph.Edge.{Edge}
use Rattle.si_base.specs.Bits.{bit}
use Rattle.si_graph.specs.Loops.Arcs.{IsFirstPlace, IsInto}
use Rattle.si_graph.proofs.ClosureLemmas.{stands_first}
use Rattle.si_closures.specs.Loops.WordSearch.{column}
use Rattle.si_divisor.specs.Loops.ManySwitching.{LetsExit}
use Rattle.si_divisor.proofs.SwitchTurns.{none_let, one_let, all_let}
use Rattle.si_divisor.proofs.switching.those_with_exit.Goals as goal

pub loop-at-init : goal.loop-at-init
loop-at-init c =
    let g = c.args.graph.now in
    let exit = c.args.exit.now in
    record {
      stands = stands_first g [] exit.from 0 c.first_in-at.result c.first_in-at.ensures;
      found = none_let g c.args.highs.now c.args.words.now exit c.first_in-at.result c.first_in-at.ensures;
    }

pub loop-at-preserved : goal.loop-at-preserved
loop-at-preserved c =
    let g = c.args.graph.now in
    let highs = c.args.highs.now in
    let words = c.args.words.now in
    let exit = c.args.exit.now in
    let n = c.in-Some.k in
    let more = c.those_that_let-found.result in
    let after = c.next_in-at.result in
    let stands = rw c.in-Some.is at c.loop-at.invariant.stands in
    let found = rw c.in-Some.is at c.loop-at.invariant.found in
    let First : ℕ → Type 0 = λ t. IsFirstPlace (IsInto g.edges t) (n + 1) (length g.edges) after in
    let next = subst First stands.1 c.next_in-at.ensures in
    let Told : Edge → Type 0 = λ a. (k : ℕ) → k < 128 → (bit more k ≡ true)
    ↔ LetsExit g (column k highs) (column k words) exit a in
    let here = subst Told c.edge.ensures.edge c.those_that_let-found.ensures in
    record {
      stands = stands_first g [] exit.from (n + 1) after next;
      found = one_let g highs words exit n c.loop-at.found more after stands.0 stands.1 next here found;
    }

pub returns : goal.returns
returns c = all_let c.args.graph.now c.args.highs.now c.args.words.now c.args.exit.now c.loop-at.found
    (rw c.in_default.is at c.loop-at.invariant.found)
