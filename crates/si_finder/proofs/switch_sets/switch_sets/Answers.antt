use Rattle.std.proofs.Common.{◌≢◌, List, length, AllPairs, ap, sym, subst, ◌∙◌, arith}
use Rattle.std.proofs.lemmas.Option.{slice_get_within}
use Rattle.std.proofs.lemmas.Result.{IfOk-weaker}
use Rattle.si_base.specs.Codes.{CodedGraph}
use Rattle.si_base.specs.declared.graph.Signal.{Signal}
use Rattle.si_base.specs.Graph.{StateGraph}
use Rattle.si_reached.specs.declared.state.Reached.{Reached}
use Rattle.si_finder.specs.Loops.Turns.{AreTurnSets}
use Rattle.si_finder.specs.declared.switch_sets.SwitchSets.{SwitchSets}
use Rattle.si_certified.specs.Sets.{AreSwitchSets}
use Rattle.si_finder.proofs.TurnLemmas.{stands_apart, stands_count, turn_sets_switch}
use Rattle.si_finder.proofs.switch_sets.switch_sets.Goals as goal

pub turn_sets-requires-clause-count : goal.turn_sets-requires-clause-count
turn_sets-requires-clause-count c =
    let v = c.args.lineage.now.current in
    let same = c.coded.ensures.same ∙ c.current.ensures.same in
    let states = c.states.ensures ∙ ap (λ (g : StateGraph). g.states) c.graph-graph.ensures.same
    ∙ ap (λ (d : CodedGraph). d.graph.states) same in
    ap (length {A = Reached}) c.in_ok-places.ensures ∙ stands_count v ∙ sym states

pub turn_sets-requires-clause-once : goal.turn_sets-requires-clause-once
turn_sets-requires-clause-once c =
    let l = c.args.lineage.now in
    subst (λ (xs : List Reached). AllPairs (λ x y. x ≢ y) xs) (sym c.in_ok-places.ensures)
    (stands_apart l.given l.current c.current.ensures.kept)

pub turn_sets-requires-clause-few : goal.turn_sets-requires-clause-few
turn_sets-requires-clause-few c =
    let v = c.args.lineage.now.current in
    let n = c.args.netlist.now in
    let same = c.coded.ensures.same ∙ c.current.ensures.same in
    let signals = ap (length {A = Signal}) (c.signals.ensures
    ∙ ap (λ (g : StateGraph). g.signals) c.graph-graph.ensures.same
    ∙ ap (λ (d : CodedGraph). d.graph.signals) same) in
    let next = c.requires.next in
    let within = slice_get_within n.signals (length v.coded.graph.signals) next.0 next.1 in
    let few = c.signals-signals.ensures.netlist.few in
    omega (arith, signals, within, few)

pub returns : goal.returns
returns c =
    let l = c.args.lineage.now in
    let v = l.current in
    let n = c.args.netlist.now in
    let xs = c.args.reached.now in
    let same = c.coded.ensures.same ∙ c.current.ensures.same in
    let signals = ap (length {A = Signal}) (c.signals.ensures
    ∙ ap (λ (g : StateGraph). g.signals) c.graph-graph.ensures.same
    ∙ ap (λ (d : CodedGraph). d.graph.signals) same) in
    IfOk-weaker c.turn_sets.result
    (λ (x : SwitchSets). AreTurnSets n c.in_ok-places.places (length c.signals.result.now) xs x.plus x.minus)
    (λ (x : SwitchSets). AreSwitchSets l.given.graph n v x.plus x.minus)
    (λ x are. turn_sets_switch l.given.graph n v xs c.requires.told c.current.ensures.kept.coded
    c.in_ok-places.places (length c.signals.result.now) x.plus x.minus c.in_ok-places.ensures signals are)
    c.turn_sets.ensures
