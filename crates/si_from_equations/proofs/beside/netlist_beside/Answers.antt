use Rattle.std.proofs.Common.{◌≢◌, ◌≤◌, ◌∙◌, ℕ, List, AllPairs, ap, subst, sym, length, flat_map, map}
use Rattle.si_base.specs.declared.graph.Signal.{Signal}
use Rattle.si_base.specs.Codes.{code}
use Rattle.si_base.specs.Graph.{StateGraph, names_in}
use Rattle.si_base.specs.Limits.{max_signals}
use Rattle.si_equations_reader.specs.Read.{equations_now}
use Rattle.si_from_equations.specs.Beside.{gate_for, gated, unknown_of}
use Rattle.si_from_equations.proofs.NetlistLemmas.{made_beside}
use Rattle.si_from_equations.proofs.SignalLemmas.{all_distinct, all_few}
use Rattle.si_from_equations.proofs.beside.netlist_beside.Goals as goal

pub gates_of-requires-clause-distinct : goal.gates_of-requires-clause-distinct
gates_of-requires-clause-distinct c =
    let same = c.as_slice.ensures.value ∙ c.requires.signals in
    subst (λ (xs : List Signal). AllPairs (λ (x y : Signal). x.name ≢ y.name) xs) (sym same)
    (all_distinct c.args.graph.now.graph (equations_now c.args.equations.now) c.graph.ensures.coded.graph_is
    c.requires.whole c.requires.lists)

pub gates_of-requires-clause-few : goal.gates_of-requires-clause-few
gates_of-requires-clause-few c =
    let same = c.as_slice.ensures.value ∙ c.requires.signals in
    subst (λ (xs : List Signal). length xs ≤ max_signals) (sym same)
    (all_few c.args.graph.now.graph (equations_now c.args.equations.now) c.graph.ensures.coded.graph_is
    c.requires.whole c.requires.lists)

pub make-requires : goal.make-requires
make-requires c =
    let e = equations_now c.args.equations.now in
    let start = c.code-start.ensures ∙ ap (λ (k : ℕ). code c.args.graph.now k) (c.start.ensures
    ∙ ap (λ (g : StateGraph). g.start) c.graph.ensures.same) in
    made_beside c.args.model c.args.graph.now e c.args.signals.items _ _ _ c.graph.ensures.coded c.requires.given
    c.requires.whole c.requires.lists c.requires.signals start
    (c.in_ok-inserts.ensures ∙ ap (λ (xs : List Signal). flat_map unknown_of xs) c.as_slice-2.ensures.value)
    (c.in_ok-gates.ensures.gates
    ∙ ap (λ (xs : List Signal). map (gate_for (names_in xs) e) (gated xs)) c.as_slice.ensures.value)
