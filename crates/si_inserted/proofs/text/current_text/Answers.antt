use Rattle.std.proofs.Common.{◌≡◌, ◌∙◌, ℕ, List, ap, length, sym}
use Rattle.std.proofs.lemmas.List.FromFn.{length-map-range_with_len}
use Rattle.std.proofs.lemmas.Result.{IfOk-weaker}
use Rattle.si_base.specs.Codes.{CodedGraph}
use Rattle.si_base.specs.Graph.{StateGraph}
use Rattle.si_inserted.proofs.CurrentTexts.{text_back}
use Rattle.si_inserted.specs.Current.{current_name, current_sg, internal_graph}
use Rattle.si_sg.specs.CanonicalText.{sg_text}
use Rattle.si_sg.specs.GivenGraph.{IsGivenBy}
use Rattle.si_inserted.proofs.text.current_text.Goals as goal

pub write_sg-requires : goal.write_sg-requires
write_sg-requires c =
    let l = c.args.lineage.now in
    let graph = c.graph.ensures.same
    ∙ ap (λ (k : CodedGraph). k.graph) (c.coded.ensures.same ∙ c.current.ensures.same) in
    let internal = c.in_ok-internal_graph.ensures ∙ ap internal_graph graph in
    let count = ap (λ (names : List (List ℕ)). length names) c.in_ok-current_names.ensures
    ∙ length-map-range_with_len (current_name c.args.states.now l) 0 l.current.coded.graph.states in
    record { states = count ∙ sym (ap (λ (g : StateGraph). g.states) internal) }

pub returns-clause-back : goal.returns-clause-back
returns-clause-back c =
    let l = c.args.lineage.now in
    let graph = c.graph.ensures.same
    ∙ ap (λ (k : CodedGraph). k.graph) (c.coded.ensures.same ∙ c.current.ensures.same) in
    let internal = c.in_ok-internal_graph.ensures ∙ ap internal_graph graph in
    λ can. IfOk-weaker c.write_sg.result
    (λ (text : List ℕ). text ≡ sg_text (record {
      model = c.in_ok-copy_of.field-0;
      graph = c.in_ok-internal_graph.field-0;
      states = c.in_ok-current_names.field-0;
    }))
    (λ (text : List ℕ). IsGivenBy text (current_sg c.args.model.now c.args.states.now l))
    (λ text is. text_back c.args.model.now c.args.states.now l _ _ _ (c.in_ok-copy_of.ensures ∙ c.bytes.ensures)
    internal c.in_ok-current_names.ensures can text is) c.write_sg.ensures.text
