use Rattle.std.proofs.Common.{◌∙◌, [], List, ℕ, Ok, ap, subst₂}
use Rattle.si_base.specs.NetlistText.{netlist_text}
use Rattle.si_joins.specs.Join.{passing}
use Rattle.si_readings.proofs.ReadingRefusals.{stops}
use Rattle.si_readings.proofs.StageLemmas.{stop_first}
use Rattle.si_refusals.specs.Ending.{MayStop, ending_of}
use Rattle.si_refusals.specs.Stages.{Passes}
use Rattle.si_sg.specs.CanonicalText.{sg_text}
use Rattle.si_sg.specs.GivenGraph.{sg_now}
use Rattle.si_stages.specs.Meaning.{audit}
use Rattle.si_joins.proofs.join.passing.Goals as goal

pub returns-in_err-_told-clause-err : goal.returns-in_err-_told-clause-err
returns-in_err-_told-clause-err c =
    let graph = c.bytes.ensures ∙ c.in_ok-graph_text.ensures.text in
    let netlist = c.bytes-2.ensures ∙ c.in_ok-text.ensures in
    let may = subst₂ (λ (g n : List ℕ). MayStop (audit [] g [] n) (ending_of c.in_err-_told.field-0.0)) graph netlist
    c.in_err-_told.ensures.err in
    stops (passing (sg_text (sg_now c.args.graph.now)) (netlist_text c.args.netlist.now))
    c.from_residual-in_err-_told.result _ c.from_residual-in_err-_told.ensures.1 (stop_first _ _ _ may)

pub returns-clause-ok : goal.returns-clause-ok
returns-clause-ok c =
    let graph = c.bytes.ensures ∙ c.in_ok-graph_text.ensures.text in
    let netlist = c.bytes-2.ensures ∙ c.in_ok-text.ensures in
    Passes c.in_ok-_told._told (subst₂ (λ (g n : List ℕ). audit [] g [] n (Ok c.in_ok-_told._told)) graph netlist
    c.in_ok-_told.ensures.ok) (ap (λ (t : List ℕ). Ok t) c.in_ok-text.ensures)
