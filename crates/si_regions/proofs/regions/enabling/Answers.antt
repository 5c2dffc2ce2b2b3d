use Rattle.std.proofs.Common.{◌≡◌, ◌<◌, ◌≤◌, ◌∙◌, List, arith, ap, sym, length, get_or}
use Rattle.si_base.specs.declared.graph.Edge.{Edge}
use Rattle.si_base.specs.Graph.{StateGraph}
use Rattle.si_base.proofs.StepCodes.{step_within}
use Rattle.si_regions.proofs.RegionLemmas.{enabling_more, enabling_pass, enabling_all}
use Rattle.si_regions.proofs.regions.enabling.Goals as goal
use Rattle.si_regions.proofs.regions.enabling.Goals.{then-eq, else-eq}

pub loop-arc-preserved : goal.loop-arc-preserved
loop-arc-preserved c =
    let g = c.args.coded.now.graph in
    let e = c.args.e.now in
    let k = c.loop-arc.arc-index in
    let x = c.arc-item.result in
    let is = c.graph-g.ensures.coded.graph_is in
    let arcs = c.arcs-arc-items.ensures.arcs ∙ ap (λ (h : StateGraph). h.edges) c.graph-g.ensures.same in
    let inside : k < length g.edges = omega (arith, c.loop-arc-test.true, ap length arcs) in
    let at : x ≡ get_or g.edges k x = c.arc-item.is ∙ ap (λ (xs : List Edge). get_or xs k x) arcs in
    elim c.if-eq.branch [
      | then-eq w ↦
          rw (w.set-is ∙ w.add.ensures)
          (enabling_more g.edges e k x inside at g.states c.loop-arc.set
          (step_within g x.from x.event x.to is (k, inside, sym at)).0 (sym c.eq.ensures ∙ w.if-eq.true)
          c.loop-arc.invariant)
      | else-eq w ↦
          rw w.set-is
          (enabling_pass g.edges e k x inside at g.states c.loop-arc.set (sym c.eq.ensures ∙ w.if-eq.false)
          c.loop-arc.invariant)
    ]

pub returns : goal.returns
returns c =
    let g = c.args.coded.now.graph in
    let arcs = c.arcs-arc-items.ensures.arcs ∙ ap (λ (h : StateGraph). h.edges) c.graph-g.ensures.same in
    let all : length g.edges ≤ c.loop-arc.arc-index = omega (arith, c.loop-arc-test.false, ap length arcs) in
    enabling_all g c.args.e.now c.loop-arc.arc-index c.loop-arc.set all c.loop-arc.invariant
