use Rattle.std.proofs.Common.{◌∙◌, Bool, List, ap, arith, count_by, sym}
use Rattle.std.proofs.lemmas.List.Sums.{length-filter}
use Rattle.si_base.specs.declared.graph.Signal.{Signal}
use Rattle.si_base.specs.Graph.{is_driven}
use Rattle.si_works.proofs.ShownLemmas.{few_filtered}
use Rattle.si_works.proofs.works.few_gates.Goals as goal

pub returns-clause-count : goal.returns-clause-count
returns-clause-count c =
    let driven : Signal → Bool = λ x. is_driven x.kind in
    let n = c.args.netlist.now in
    c.driven_count.ensures ∙ ap (λ (xs : List Signal). count_by driven xs) c.signals.ensures.signals
    ∙ sym (length-filter driven n.signals) ∙ sym c.signals.ensures.netlist.gate_count

pub returns-clause-few : goal.returns-clause-few
returns-clause-few c =
    let driven : Signal → Bool = λ x. is_driven x.kind in
    let n = c.args.netlist.now in
    let count = c.driven_count.ensures ∙ ap (λ (xs : List Signal). count_by driven xs) c.signals.ensures.signals
    ∙ sym (length-filter driven n.signals) in
    let filtered = few_filtered driven n.signals in
    let few = c.signals.ensures.netlist.few in
    omega (arith, count, filtered, few)
