use Rattle.std.proofs.Common.{◌<◌, ◌∙◌, [], ap, subst, length, arith}
use Rattle.si_base.specs.Codes.{CodedGraph, IsCoded}
use Rattle.si_base.specs.Graph.{StateGraph}
use Rattle.si_candidates.specs.declared.tree.Link.{Link}
use Rattle.si_candidates.proofs.SideLemmas.{link_within}
use Rattle.si_candidates.proofs.SideWords.{no_sides_yet, one_link_more, all_sides}
use Rattle.si_candidates.proofs.sides.sides_of_words.Goals as goal

pub loop-link-init : goal.loop-link-init
loop-link-init c =
    let same = c.graph-g.ensures.same ∙ ap (λ (d : CodedGraph). d.graph) c.coded.ensures.same in
    no_sides_yet c.args.graph.now.graph c.args.tree.now c.args.words.now c.states.result c.in_ok-sides.sides.items
    (c.states.ensures ∙ ap (λ (g : StateGraph). g.states) same)
    (c.in_ok-sides.ensures.items_if_clones_equal (λ _ same. same))

pub loop-link-preserved : goal.loop-link-preserved
loop-link-preserved c =
    let g = c.args.graph.now.graph in
    let tree = c.args.tree.now in
    let words = c.args.words.now in
    let sides = c.loop-link.sides.items in
    let n = c.loop-link.link-index in
    let l = c.link-item.result in
    let is = c.requires.tree in
    let graph = (subst IsCoded c.coded.ensures.same c.graph-g.ensures.coded).graph_is in
    let ends = link_within g tree is [] graph n l c.loop-link-test.true c.link-item.is in
    let within : l.to < length sides = omega (arith, ends.1, c.loop-link.invariant.size) in
    rw (ap (λ (x : Link). x.to) c.link.view_is)
    (one_link_more g tree is words n l c.loop-link-test.true c.link-item.is sides c.loop-link.invariant
    c.side_behind.result within (rw c.deref.ensures.value at c.side_behind.ensures))

pub returns-clause-sides : goal.returns-clause-sides
returns-clause-sides c = all_sides c.args.graph.now.graph c.args.tree.now c.args.words.now c.loop-link.link-index
    c.loop-link.sides.items (omega (arith, c.loop-link-test.false)) c.loop-link.invariant
