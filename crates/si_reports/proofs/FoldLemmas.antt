-- A graph has one fold text.
use Rattle.std.proofs.Common.{◌≡◌, ℕ, List, map, refl, sym, ap, ap₂, ◌∙◌}
use Rattle.si_base.specs.Codes.{CodedGraph, IsCoded}
use Rattle.si_base.specs.GivenGraph.{Sg}
use Rattle.si_base.specs.Graph.{StateGraph}
use Rattle.si_fold.proofs.FoldedExists.{some_folded}
use Rattle.si_fold.proofs.UniqueFolded.{folded_unique}
use Rattle.si_sg.specs.CanonicalText.{sg_text, state_at}
use Rattle.si_reports.specs.Fold.{IsFoldText, IsFoldedGraph}

module _ (model : List ℕ) (states : List (List ℕ)) (coded : CodedGraph) (is : IsCoded coded) where
  -- the graph under the names of these states
  under_names : StateGraph → List ℕ → Sg
  under_names graph kept = record { model = model; graph = graph; states = map (state_at states) kept }

  named_so : (folded : Sg) (f : IsFoldedGraph model states coded folded) → folded ≡ under_names folded.graph f.kept
  unfolding under_names
  named_so folded f =
      let model_is = f.model_is in
      let states_are = f.states_are in
      λ i. record { model = model_is i; graph = folded.graph; states = states_are i }

  same_folded : (folded other : Sg) → IsFoldedGraph model states coded folded
      → IsFoldedGraph model states coded other → folded ≡ other
  same_folded folded other one two =
      let d : CodedGraph = record { graph = folded.graph; codes = one.codes } in
      let e : CodedGraph = record { graph = other.graph; codes = two.codes } in
      let same = folded_unique coded is one.kept one.class two.kept two.class d e one.is_folded two.is_folded in
      named_so folded one
      ∙ ap₂ under_names (ap (λ (c : CodedGraph). c.graph) same.2) same.0
      ∙ sym (named_so other two)

  pub one_fold_text : (x y : List ℕ) → IsFoldText model states coded x → IsFoldText model states coded y → x ≡ y
  one_fold_text x y one other =
      one.output_is ∙ ap sg_text (same_folded one.folded other.folded one.is other.is) ∙ sym other.output_is

  pub some_fold_text : (output : List ℕ) × IsFoldText model states coded output
  some_fold_text =
      let some = some_folded coded is in
      let folded : Sg = record {
        model = model;
        graph = some.2.graph;
        states = map (state_at states) some.0;
      } in (
        sg_text folded,
        record {
          folded = folded;
          is = record {
            kept = some.0;
            class = some.1;
            codes = some.2.codes;
            is_folded = some.3;
            model_is = refl;
            states_are = refl;
          };
          output_is = refl;
        },
      )
