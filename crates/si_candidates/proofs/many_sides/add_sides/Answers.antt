use Rattle.std.proofs.Common.{◌≡◌, ◌+◌, ◌≤◌, ◌∙◌, length, ap, sym, subst, arith}
use Rattle.si_base.specs.Codes.{CodedGraph}
use Rattle.si_base.specs.Graph.{StateGraph}
use Rattle.si_candidates.specs.Loops.Sides.{AreSidesOf}
use Rattle.si_candidates.proofs.ManySideLemmas.{more_sides}
use Rattle.si_candidates.proofs.many_sides.add_sides.Goals as goal

pub returns-clause-sides : goal.returns-clause-sides
returns-clause-sides c =
    let g = c.args.graph.now.graph in
    let tree = c.args.tree.now in
    let blocks = c.args.blocks.now in
    let list = c.args.list.now.items in
    let sets = c.in_ok-sets.sets.items in
    let first = c.len-first.result in
    let same = c.graph.ensures.same ∙ ap (λ (d : CodedGraph). d.graph) c.coded.ensures.same in
    let states_are = c.states-states.ensures ∙ ap (λ (h : StateGraph). h.states) same in
    let first_is : first ≡ length list = omega (arith, c.len-first.ensures, c.args.list.now.ok) in
    let few : length sets ≤ 128 = omega (arith, c.in_ok-sets.ensures.count, c.min-count.ensures) in
    let within : length list + length sets ≤ length blocks =
    omega (arith, c.in_ok-sets.ensures.count, c.min-count.ensures, first_is, c.requires.some) in
    subst (λ x. AreSidesOf g tree blocks x) (sym c.in_ok-append.ensures.items)
    (more_sides g tree blocks list sets c.in_ok-words.words.items c.in_ok-sides.sides.items c.states-states.result
    first states_are first_is few within c.requires.sizes c.in_ok-words.ensures
    (rw c.deref.ensures.value at c.in_ok-sides.ensures.sides)
    (λ k inside. (rw c.deref-2.ensures.value at c.in_ok-sets.ensures.each) k
    (omega (arith, inside, c.in_ok-sets.ensures.count)))
    c.requires.sides)
