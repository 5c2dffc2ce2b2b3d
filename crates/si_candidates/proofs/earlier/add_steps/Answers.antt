use Rattle.std.proofs.Common.{◌+◌, ℕ, [], length, subst}
use Rattle.si_base.specs.declared.graph.Edge.{Edge}
use Rattle.si_graph.specs.Loops.Arcs.{IsFirstPlace, IsInto}
use Rattle.si_graph.proofs.ClosureLemmas.{stands_first}
use Rattle.si_candidates.specs.Loops.Earlier.{Adds, IsEarlierBy}
use Rattle.si_candidates.proofs.EarlierLemmas.{one_more, all_earlier}
use Rattle.si_candidates.proofs.earlier.add_steps.Goals as goal

pub loop-at-preserved : goal.loop-at-preserved
loop-at-preserved c =
    let g = c.args.graph.now in
    let exit = c.args.exit.now in
    let old = c.args.steps.now.items in
    let mid = c.loop-at.steps.items in
    let new = c.add_step.new.steps.items in
    let k = c.in-Some.k in
    let after = c.next_in-at.result in
    let stands = rw c.in-Some.is at c.loop-at.invariant.stands in
    let before = rw c.in-Some.is at c.loop-at.invariant.adds in
    let First : ℕ → Type 0 = λ t. IsFirstPlace (IsInto g.edges t) (k + 1) (length g.edges) after in
    let next = subst First stands.1 c.next_in-at.ensures in
    let AddsBy : Edge → Type 0 = λ a. Adds (IsEarlierBy g exit a) mid new in
    let here = subst AddsBy c.edge.ensures.edge c.in_ok-add_step.ensures in
    record {
      stands = stands_first g [] exit.from (k + 1) after next;
      adds = one_more g exit k after old mid new stands next before here;
    }

pub returns : goal.returns
returns c = all_earlier c.args.graph.now c.args.exit.now c.args.steps.now.items c.loop-at.steps.items
    (c.is_driven.ensures.0 c.if-not-is_driven.false) c.requires.there
    (rw c.in_default.is at c.loop-at.invariant.adds)
