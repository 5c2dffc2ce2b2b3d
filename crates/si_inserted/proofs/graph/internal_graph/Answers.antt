use Rattle.std.proofs.Common.{◌≡◌, ◌≤◌, ◌∙◌, map, AllPairs, sym, ap, subst}
use Rattle.std.proofs.lemmas.Result.{IfOk-weaker}
use Rattle.si_base.specs.declared.graph.Signal.{Signal}
use Rattle.si_base.specs.Graph.{IsMadeOf, StateGraph, kind_place}
use Rattle.si_inserted.specs.Current as current
use Rattle.si_inserted.proofs.InternalGraphLemmas.{internal_is_graph, made_internal}
use Rattle.si_inserted.proofs.graph.internal_graph.Goals as goal

pub make-requires-clause-names : goal.make-requires-clause-names
make-requires-clause-names c =
    let signals = c.in_ok-signals.ensures ∙ ap (map current.given_signal) c.signals.ensures in
    subst (AllPairs (λ (x y : Signal). x.name ≡ y.name → ⊥)) (sym signals)
    (internal_is_graph c.args.graph.now c.arcs.ensures.graph).names

pub make-requires-clause-kinds : goal.make-requires-clause-kinds
make-requires-clause-kinds c =
    let signals = c.in_ok-signals.ensures ∙ ap (map current.given_signal) c.signals.ensures in
    subst (AllPairs (λ (x y : Signal). kind_place x.kind ≤ kind_place y.kind)) (sym signals)
    (internal_is_graph c.args.graph.now c.arcs.ensures.graph).kinds

pub returns : goal.returns
returns c =
    let signals = c.in_ok-signals.ensures ∙ ap (map current.given_signal) c.signals.ensures in
    let edges = c.in_ok-edges.ensures.items ∙ c.arcs.ensures.arcs in
    IfOk-weaker c.make.result
    (IsMadeOf c.in_ok-signals.signals.items c.states.result c.in_ok-edges.edges.items c.start.result)
    (λ (h : StateGraph). h ≡ current.internal_graph c.args.graph.now)
    (λ h made. made_internal c.args.graph.now h _ _ _ _ c.arcs.ensures.graph signals c.states.ensures edges
    c.start.ensures made) c.make.ensures
