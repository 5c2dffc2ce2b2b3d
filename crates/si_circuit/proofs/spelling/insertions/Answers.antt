use Rattle.std.proofs.Common.{ap, sym, subst₂, ◌≡◌, ◌∙◌, List}
use Rattle.si_base.specs.Graph.{StateGraph}
use Rattle.si_base.specs.Codes.{CodedGraph}
use Rattle.si_base.specs.Netlist.{Insertion}
use Rattle.si_circuit.specs.declared.spelling.Descent.{Descent}
use Rattle.si_circuit.specs.Spelling.{given_descents}
use Rattle.si_circuit.proofs.SpellingTraces.{IsSpelledTo, none_spelled, step_spelled}
use Rattle.si_circuit.proofs.spelling.insertions.Goals as goal

pub loop-k-init : goal.loop-k-init
loop-k-init c =
    let P : List Descent → List Insertion → Type 0 =
    λ ds done. IsSpelledTo c.args.states.now c.args.lineage.now 0 ds done in
    let graph : c.graph.result.now ≡ c.args.lineage.now.given.graph =
    c.graph.ensures.same ∙ ap (λ (k : CodedGraph). k.graph) (c.coded.ensures.same ∙ c.given.ensures.same) in
    let start : c.in_ok-descents.descents.items ≡ given_descents c.args.lineage.now.given.graph.states =
    c.in_ok-descents.ensures ∙ ap given_descents (c.states.ensures ∙ ap (λ (g : StateGraph). g.states) graph) in
    subst₂ P (sym start) (sym c.new-inserts.ensures.items)
    (none_spelled c.args.states.now c.args.lineage.now c.trace-trace.ensures.made)

pub loop-k-preserved : goal.loop-k-preserved
loop-k-preserved c =
    step_spelled c.args.states.now c.args.lineage.now c.loop-k.k c.trace-trace.result.now c.loop-k.descents.items
    c.as_slice.result.now c.as_slice-in-loop-k.result.now c.in_ok-descents-2.descents.items c.classes.result.now
    c.loop-k.inserts.items c.push.new.self.items c.index-trace-k.result c.in_ok-insertion_of.field-0
    c.trace-trace.ensures.same c.loop-k-test.true c.index-trace-k.is c.as_slice.ensures.value
    c.as_slice-in-loop-k.ensures.value c.classes.ensures c.in_ok-descents-2.ensures c.in_ok-insertion_of.ensures
    c.in_ok-push.ensures.items c.loop-k.invariant
