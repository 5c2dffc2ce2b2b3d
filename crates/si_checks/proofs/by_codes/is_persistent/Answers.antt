use Rattle.std.proofs.Common.{◌≡◌, ◌∙◌, List, All, Contains, ap, refl, sym, subst}
use Rattle.std.proofs.lemmas.Bool.{true≢false}
use Rattle.std.proofs.lemmas.List.{take_all}
use Rattle.std.proofs.lemmas.List.Elements.{All-more}
use Rattle.si_base.specs.declared.graph.Edge.{Edge}
use Rattle.si_base.specs.Graph.{StateGraph}
use Rattle.si_checks.specs.Loops.ByCodes.{LeavesOthers}
use Rattle.si_checks.proofs.ByCodesLemmas.{leaves_persist, persist_leaves}
use Rattle.si_checks.proofs.by_codes.is_persistent.Goals as goal

pub loop-arc-preserved : goal.loop-arc-preserved
loop-arc-preserved c =
    let Leaves : Edge → Type 0 = λ a. LeavesOthers c.args.coded.now.graph a in
    All-more Leaves c.arcs-arcs.result.now c.loop-arc.arc-index c.arc-item.result c.loop-arc-test.true
    c.loop-arc.invariant (subst Leaves c.arc-item.is (c.if-not-leaves_others.ensures.0 refl))

pub returns-then-not-leaves_others-clause-persistent : goal.returns-then-not-leaves_others-clause-persistent
returns-then-not-leaves_others-clause-persistent c =
    let d = c.args.coded.now in
    let a = c.arc-item.result in
    let edges : c.arcs-arcs.result.now ≡ d.graph.edges =
    c.arcs-arcs.ensures.arcs ∙ ap (λ (g : StateGraph). g.edges) c.graph-graph.ensures.same in
    let there : Contains d.graph.edges a = subst (λ (xs : List Edge). Contains xs a) edges
    (c.loop-arc.arc-index, c.loop-arc-test.true, sym c.arc-item.is) in (
      λ never. absurd (true≢false (sym never)),
      λ persists. c.if-not-leaves_others.ensures.1
          (persist_leaves d c.graph-graph.ensures.coded persists a there),
    )

pub returns-clause-persistent : goal.returns-clause-persistent
returns-clause-persistent c =
    let d = c.args.coded.now in
    let edges : c.arcs-arcs.result.now ≡ d.graph.edges =
    c.arcs-arcs.ensures.arcs ∙ ap (λ (g : StateGraph). g.edges) c.graph-graph.ensures.same in
    let whole = take_all c.loop-arc.arc-index c.arcs-arcs.result.now c.loop-arc-test.false in
    let all = rw whole at c.loop-arc.invariant in
    let All_leave : List Edge → Type 0 = λ xs. All (LeavesOthers d.graph) xs in (
      λ _. leaves_persist d c.graph-graph.ensures.coded (subst All_leave edges all),
      λ _. refl,
    )
