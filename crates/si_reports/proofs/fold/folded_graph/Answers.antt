use Rattle.std.proofs.Common.{◌<◌, ◌∙◌, All, List, ℕ, length, map, sym, ap, subst}
use Rattle.si_base.specs.Codes.{CodedGraph}
use Rattle.si_base.specs.Graph.{StateGraph}
use Rattle.si_fold.specs.Folded.{IsFolded}
use Rattle.si_fold.proofs.FoldedGraph.{kept_within}
use Rattle.si_sg.specs.CanonicalText.{state_at}
use Rattle.si_reports.proofs.fold.folded_graph.Goals as goal

pub names_at-requires-clause-within : goal.names_at-requires-clause-within
names_at-requires-clause-within c =
    let folded = c.in_ok-folded.field-0 in
    let within = kept_within c.args.graph.now folded.kept.items folded.class.items c.in_ok-folded.ensures.classes in
    let named = subst (λ (n : ℕ). All (λ s. s < n) folded.kept.items) (sym c.requires) within in
    subst (All (λ s. s < length c.args.states.now)) (sym c.deref.ensures.value) named

pub returns-clause-folded : goal.returns-clause-folded
returns-clause-folded c =
    let folded = c.in_ok-folded.field-0 in
    let graph = c.into_graph.ensures ∙ ap (λ (x : CodedGraph). x.graph) c.into_coded.ensures in
    record {
      kept = folded.kept.items;
      class = folded.class.items;
      codes = folded.graph.codes;
      is_folded = subst (λ (g : StateGraph). IsFolded c.args.graph.now folded.kept.items folded.class.items
          (record { graph = g; codes = folded.graph.codes })) (sym graph) c.in_ok-folded.ensures;
      model_is = c.in_ok-copy_of.ensures ∙ c.bytes.ensures;
      states_are = c.in_ok-names_at.ensures
          ∙ ap (λ (places : List ℕ). map (state_at c.args.states.now) places) c.deref.ensures.value;
    }
