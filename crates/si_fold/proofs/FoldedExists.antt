-- Each graph has a folded graph.
use Rattle.std.proofs.Common.{◌≡◌, ◌≢◌, ◌⊎◌, ℕ, ◌+◌, ◌<◌, zero, suc, List, [], ◌∷◌, ◌++◌, length, map, get_or, Option}
use Rattle.std.proofs.Common.{None, Some, unwrap_or, refl, sym, subst, arith, inl, inr}
use Rattle.std.proofs.lemmas.Bool.{cases_eq}
use Rattle.std.proofs.lemmas.List.{length-map}
use Rattle.std.proofs.lemmas.List.Elements.{All-contains, Contains-get_or}
use Rattle.si_base.specs.declared.graph.Edge.{Edge}
use Rattle.si_base.specs.Graph.{StateGraph, IsMadeOf}
use Rattle.si_base.specs.Codes.{CodedGraph, IsCoded, code}
use Rattle.si_graph.specs.Loops.Renaming.{renamed}
use Rattle.si_graph.proofs.ArcsInOrder.{arcs_in_order}
use Rattle.si_fold.specs.declared.numbering.Key.{Key}
use Rattle.si_fold.specs.Folded.{IsFolded}
use Rattle.si_fold.specs.Loops.Partition.{Shape}
use Rattle.si_fold.specs.Loops.Numbered.{key_of}
use Rattle.si_fold.proofs.NumberedClasses.{numbered_classes}
use Rattle.si_fold.proofs.FoldedGraph.{start_inside, arcs_inside, made_is_folded}
use Rattle.si_fold.proofs.NumberLemmas.{ArePlaced, none_placed, one_more_placed, cases_key}
use Rattle.si_fold.proofs.RefinedCoarsest.{refined_shape, shape_is_refined}

-- ---- numbers for the classes
module _ (places : Key → Option ℕ) (key : Key) (place : ℕ) where
  pick : (q : Key) → ((q ≡ key) ⊎ (q ≢ key)) → Option ℕ
  pick q (inl same) = Some place
  pick q (inr other) = places q

  more_places : Key → Option ℕ
  more_places q = pick q (cases_key q key)

  pick_same : (q : Key) (d : (q ≡ key) ⊎ (q ≢ key)) → q ≡ key → pick q d ≡ Some place
  unfolding pick
  pick_same q (inl same) is = refl
  pick_same q (inr other) is = absurd (other is)

  pick_other : (q : Key) (d : (q ≡ key) ⊎ (q ≢ key)) → q ≢ key → pick q d ≡ places q
  unfolding pick
  pick_other q (inl same) apart = absurd (apart same)
  pick_other q (inr other) apart = refl

  placed_there : more_places key ≡ Some place
  unfolding more_places
  placed_there = pick_same key (cases_key key key) refl

  placed_others : (q : Key) → q ≢ key → more_places q ≡ places q
  unfolding more_places
  placed_others q apart = pick_other q (cases_key q key) apart

some_placed : (c : CodedGraph) (p : Shape) (n : ℕ)
    → (kept : List ℕ) × (class : List ℕ) × (places : Key → Option ℕ) × ArePlaced c p n kept class places
some_placed c p zero = ([], [], (λ q. None), none_placed c p (λ q. None) (λ q. refl))
some_placed c p (suc n) =
    let before = some_placed c p n in
    let kept = before.0 in
    let class = before.1 in
    let places = before.2 in
    let key = key_of c p n in
    let place = unwrap_or (places key) (length kept) in
    let longer : suc n ≡ n + 1 = omega arith in
    elim (cases_eq place (length kept)) [
      | inl new ↦ (
        kept ++ n ∷ [],
        class ++ place ∷ [],
        more_places places key place,
        subst (λ (m : ℕ). ArePlaced c p m (kept ++ n ∷ []) (class ++ place ∷ []) (more_places places key place))
            (sym longer)
            (one_more_placed c p n place key kept class (kept ++ n ∷ []) (class ++ place ∷ []) places
            (more_places places key place) before.3 refl refl (placed_there places key place)
            (placed_others places key place) (λ same. refl) (λ apart. absurd (apart new)) refl),
      )
      | inr old ↦ (
        kept,
        class ++ place ∷ [],
        more_places places key place,
        subst (λ (m : ℕ). ArePlaced c p m kept (class ++ place ∷ []) (more_places places key place))
            (sym longer)
            (one_more_placed c p n place key kept class kept (class ++ place ∷ []) places
            (more_places places key place) before.3 refl refl (placed_there places key place)
            (placed_others places key place) (λ same. absurd (old same)) (λ apart. refl) refl),
      )
    ]

-- ---- the folded graph
pub some_folded : (c : CodedGraph) → IsCoded c
    → (kept : List ℕ) × (class : List ℕ) × (d : CodedGraph) × IsFolded c kept class d
some_folded c is =
    let p = refined_shape c.graph is.graph_is is.deterministic in
    let r = shape_is_refined c.graph is.graph_is is.deterministic in
    let placed = some_placed c p c.graph.states in
    let kept = placed.0 in
    let class = placed.1 in
    let n = placed.3.numbered in
    let arcs : List Edge = map (renamed class) c.graph.edges in
    let o = arcs_in_order arcs in
    let are = o.1 in
    let start = get_or class c.graph.start 0 in
    let h : StateGraph = record { signals = c.graph.signals; states = length kept; edges = o.0; start = start } in
    let classes = numbered_classes c is p r kept class n in
    let inside = arcs_inside c is kept class classes arcs refl in
    let few = n.few in
    let old = is.graph_is in
    let few_states = old.few_states in
    let few_edges = old.few_edges in
    let made : IsMadeOf c.graph.signals (length kept) arcs start h = record {
      signals_are = refl;
      states_are = refl;
      start_is = refl;
      graph = record {
        few_states = omega (arith, few, few_states);
        few_signals = old.few_signals;
        few_edges = omega (arith, are.no_longer, length-map c.graph.edges (renamed class), few_edges);
        within = λ k d below.
            All-contains (λ a. (a.from < length kept) × (a.event.sig < length c.graph.signals) × (a.to < length kept))
            arcs (get_or o.0 k d) inside ((are.same (get_or o.0 k d)).0 (Contains-get_or o.0 k d below));
        starts = start_inside c is kept class classes start refl;
        kinds = old.kinds;
        names = old.names;
        ordered = are.sorted;
      };
      arcs = are.same;
    } in
    let codes : List ℕ = map (code c) kept in (
      kept,
      class,
      record { graph = h; codes = codes },
      made_is_folded c is kept class classes arcs codes start h refl refl refl made,
    )
