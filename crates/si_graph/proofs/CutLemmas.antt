-- The graph that is made of the renamed arcs is the cut, and each of its states is reachable.
use Rattle.std.proofs.Common.{◌≡◌, ℕ, zero, suc, add-one, ◌+◌, ◌-◌, ◌<◌, ◌≤◌, Bool, ap, ap₂, ◌∙◌, sym, refl, subst}
use Rattle.std.proofs.Common.{arith, List, [], ◌∷◌, length, get_or, slice_get, Some, Contains, inl, inr, ◌↔◌, AllPairs}
use Rattle.std.proofs.Common.{All, map, filter, nat_cmp}
use Rattle.std.specs.List.Sorted.{IsStrictlySortedBy}
use Rattle.std.proofs.lemmas.Bool.{cases_order}
use Rattle.std.proofs.lemmas.List.{get_or_default, get_or_read, length-map}
use Rattle.std.proofs.lemmas.List.Sums.{length-filter, count_by-le-length}
use Rattle.std.proofs.lemmas.List.Elements.{Contains-get_or, All-contains}
use Rattle.std.proofs.lemmas.Option.{slice_get_within, slice_get-get_or, get_or_from_slice_get}
use Rattle.std.proofs.lemmas.Map.Keys.{sorted_from_strictly_increasing, below_from_sorted}
use Rattle.si_base.specs.declared.ids.Event.{Event}
use Rattle.si_base.specs.declared.graph.Edge.{Edge}
use Rattle.si_base.specs.Graph.{StateGraph, Step, Walk, IsReachable, IsGraph, IsMadeOf, IsCut, arc}
use Rattle.si_base.specs.Codes.{IsConnected}
use Rattle.si_base.specs.Sets.{IsIn}
use Rattle.si_graph.specs.Loops.Renaming.{Renames, renamed, leaves_marked}
use Rattle.si_graph.proofs.ArcFacts.{IsInside}
use Rattle.si_graph.proofs.SearchLemmas.{in_below, reachable-step}
use Rattle.si_graph.proofs.ListMembers.{Contains-filter, Contains-from_filter, Contains-map, Contains-from_map}

-- in a list that ascends strictly a number stands at one place
pub one_place : (kept : List ℕ) → IsStrictlySortedBy nat_cmp kept → (i j : ℕ) → i < length kept → j < length kept
    → get_or kept i 0 ≡ get_or kept j 0 → i ≡ j
one_place kept sorted i j within_i within_j same = elim (cases_order i j) [
  | inl equal ↦ equal
  | inr (inl lt) ↦ (let less = below_from_sorted kept i j 0 sorted lt within_j in absurd (omega (arith, less, same)))
  | inr (inr gt) ↦ (let less = below_from_sorted kept j i 0 sorted gt within_i in absurd (omega (arith, less, same)))
]

sorted_from_pairs : (xs : List ℕ) → AllPairs (λ x y. x < y) xs → IsStrictlySortedBy nat_cmp xs
sorted_from_pairs xs pairs = sorted_from_strictly_increasing xs (λ k within. pairs k (k + 1) 0 (omega arith) within)

-- the renamed arcs of a graph
abbrev pub new_arcs : StateGraph → List Bool → List ℕ → List Edge
new_arcs g marks places = map (renamed places) (filter (leaves_marked marks) g.edges)

pub new_arcs_are : (g : StateGraph) (marks : List Bool) (places read : List ℕ) (arcs made : List Edge)
    → made ≡ map (renamed read) (filter (leaves_marked marks) arcs) → arcs ≡ g.edges → read ≡ places
    → made ≡ new_arcs g marks places
new_arcs_are g marks places read arcs made is same_arcs same_places = is
    ∙ ap₂ (λ (es : List Edge) (ps : List ℕ). map (renamed ps) (filter (leaves_marked marks) es)) same_arcs same_places

-- what is read at the place of the start
pub place_read : (places : List ℕ) (k s x : ℕ) → k ≡ s → s < length places
    → x ≡ get_or places k x → x ≡ get_or places s 0
place_read places k s x same within at = get_or_read places s x within (subst (λ j. x ≡ get_or places j x) same at) 0

pub new_arcs_few : (g : StateGraph) (marks : List Bool) (places : List ℕ)
    → length (new_arcs g marks places) ≤ length g.edges
new_arcs_few g marks places = omega (
  arith,
  length-map (filter (leaves_marked marks) g.edges) (renamed places),
  length-filter (leaves_marked marks) g.edges,
  count_by-le-length (leaves_marked marks) g.edges,
)

module _ (g : StateGraph) (is : IsGraph g) (marks : List Bool) (kept places : List ℕ)
    (r : Renames marks (length marks) kept places) (exact : (t : ℕ) → IsIn marks t ↔ IsReachable g t) where
  at_place : (t : ℕ) → IsIn marks t → slice_get kept (get_or places t 0) ≡ Some t
  at_place t here = r.places_are t (in_below marks t here) here

  old_is : (t i : ℕ) → IsIn marks t → get_or places t 0 ≡ i → get_or kept i 0 ≡ t
  old_is t i here place = subst (λ j. get_or kept j 0 ≡ t) place (get_or_from_slice_get kept _ t 0 (at_place t here))

  place_within : (t : ℕ) → IsIn marks t → get_or places t 0 < length kept
  place_within t here = slice_get_within kept _ t (at_place t here)

  in_order : IsStrictlySortedBy nat_cmp kept
  in_order = sorted_from_pairs kept r.in_order

  old_marked : (i : ℕ) → i < length kept → IsIn marks (get_or kept i 0)
  old_marked i within = ((r.members (get_or kept i 0)).0 (Contains-get_or kept i 0 within)).1

  place_is : (i : ℕ) → i < length kept → get_or places (get_or kept i 0) 0 ≡ i
  place_is i within =
      let here = old_marked i within in
      one_place kept in_order _ i (place_within _ here) within (old_is (get_or kept i 0) _ here refl)

  start_marked : IsIn marks g.start
  start_marked = (exact g.start).1 ([], refl)

  pub start_within : get_or places g.start 0 < length kept
  start_within = place_within g.start start_marked

  -- a renamed arc comes from a given one between marked states
  source_of : (b : Edge) → Contains (new_arcs g marks places) b
      → (x : Edge) × Contains g.edges x × IsIn marks x.from × IsIn marks x.to × (renamed places x ≡ b)
  source_of b there =
      let m = Contains-from_map (renamed places) (filter (leaves_marked marks) g.edges) b there in
      let f = Contains-from_filter (leaves_marked marks) g.edges m.0 m.1 in
      let to_in = (exact m.0.to).1 (reachable-step g m.0.from m.0.to m.0.event ((exact m.0.from).0 f.1) f.0) in
      (m.0, f.0, f.1, to_in, m.2)

  step_from : (s : ℕ) (e : Event) (t : ℕ) → Contains (new_arcs g marks places) (arc s e t)
      → Step g (get_or kept s 0) e (get_or kept t 0)
  step_from s e t there =
      let (x, given, from_in, to_in, same) = source_of (arc s e t) there in
      let from = old_is x.from s from_in (ap (λ (b : Edge). b.from) same) in
      let to = old_is x.to t to_in (ap (λ (b : Edge). b.to) same) in
      let event : x.event ≡ e = ap (λ (b : Edge). b.event) same in
      let whole : x ≡ arc (get_or kept s 0) e (get_or kept t 0) =
      λ i. record { from = sym from i; event = event i; to = sym to i } in
      subst (λ b. Contains g.edges b) whole given

  step_to : (s : ℕ) (e : Event) (t : ℕ) → s < length kept → t < length kept
      → Step g (get_or kept s 0) e (get_or kept t 0) → Contains (new_arcs g marks places) (arc s e t)
  step_to s e t within_s within_t step =
      let x : Edge = arc (get_or kept s 0) e (get_or kept t 0) in
      let from = place_is s within_s in
      let to = place_is t within_t in
      let whole : renamed places x ≡ arc s e t = λ i. record { from = from i; event = e; to = to i } in
      subst (λ b. Contains (new_arcs g marks places) b) whole
      (Contains-map (renamed places) (filter (leaves_marked marks) g.edges) x
      (Contains-filter (leaves_marked marks) g.edges x step (old_marked s within_s)))

  pub new_arcs_inside : All (IsInside (length kept) (length g.signals)) (new_arcs g marks places)
  new_arcs_inside k d within =
      let b = get_or (new_arcs g marks places) k d in
      let (x, given, from_in, to_in, same) = source_of b (Contains-get_or _ k d within) in
      let was = All-contains (IsInside g.states (length g.signals)) g.edges x is.within given in
      subst (λ b. IsInside (length kept) (length g.signals) b) same
      (place_within x.from from_in, was.1, place_within x.to to_in)

  pub made_is_cut : (h : StateGraph)
      → IsMadeOf g.signals (length kept) (new_arcs g marks places) (get_or places g.start 0) h → IsCut g kept h
  made_is_cut h made = record {
    signals_stay = made.signals_are;
    count = made.states_are;
    in_order = in_order;
    reachable = λ s. (
      λ there. (exact s).0 ((r.members s).0 there).1,
      λ walk. let here = (exact s).1 walk in (r.members s).1 (in_below marks s here, here),
    );
    start_kept = subst (λ i. slice_get kept i ≡ Some g.start) (sym made.start_is) (at_place g.start start_marked);
    arcs = λ s e t within_s within_t. (
      λ step. step_from s e t ((made.arcs (arc s e t)).0 step),
      λ step. (made.arcs (arc s e t)).1 (step_to s e t within_s within_t step),
    );
    graph = made.graph;
  }

  -- ---- where each state is reachable, the graph is its own cut
  ascends : (i : ℕ) → i + 1 < length kept → get_or kept i 0 < get_or kept (i + 1) 0
  ascends i within = r.in_order i (i + 1) 0 (omega arith) within

  at_least : (i : ℕ) → i < length kept → i ≤ get_or kept i 0
  at_least zero within = omega arith
  at_least (suc i) within = (
      let before = at_least i (omega arith) in
      let up = rw add-one at (ascends i (omega arith)) in
      omega arith)

  at_most : (m i : ℕ) → (i + m) + 1 ≡ length kept → get_or kept i 0 + m < length marks
  at_most zero i last = omega (arith, ((r.members (get_or kept i 0)).0 (Contains-get_or kept i 0 (omega arith))).0)
  at_most (suc m) i last = (
      let after = at_most m (i + 1) (omega arith) in
      let up = ascends i (omega arith) in
      omega arith)

  each_stays : length kept ≡ length marks → (i : ℕ) → i < length kept → get_or kept i 0 ≡ i
  each_stays all i within =
      let low = at_least i within in
      let high = at_most (length kept - (i + 1)) i (omega arith) in
      omega arith

  pub whole_is_cut : length kept ≡ g.states → length marks ≡ g.states → IsCut g kept g
  whole_is_cut all size =
      let stays = each_stays (all ∙ sym size) in
      let start_in : g.start < length kept = omega (arith, is.starts) in
      record {
        signals_stay = refl;
        count = sym all;
        in_order = in_order;
        reachable = λ s. (
          λ there. (exact s).0 ((r.members s).0 there).1,
          λ walk. let here = (exact s).1 walk in (r.members s).1 (in_below marks s here, here),
        );
        start_kept = slice_get-get_or kept g.start 0 start_in ∙ ap Some (stays g.start start_in);
        arcs = λ s e t within_s within_t. rw (stays s within_s, stays t within_t) (λ step. step, λ step. step);
        graph = is;
      }

-- ---- a cut is connected
module _ (g : StateGraph) (kept : List ℕ) (h : StateGraph) (cut : IsCut g kept h) where
  -- the walk of the given graph, between the places of its states
  kept_walk : (es : List Event) (i t : ℕ) → i < length kept → Walk g (get_or kept i 0) es t
      → (j : ℕ) × (j < length kept) × (get_or kept j 0 ≡ t) × Walk h i es j
  kept_walk [] i t within walk = (i, within, walk, refl)
  kept_walk (e ∷ es) i t within (u, step, walk) =
      let here = (cut.reachable _).0 (Contains-get_or kept i 0 within) in
      let (k, within_k, at) = (cut.reachable u).1 (reachable-step g _ u e here step) in
      let old : u ≡ get_or kept k 0 = sym at ∙ get_or_default kept k u 0 within_k in
      let rest = kept_walk es k t within_k (subst (λ v. Walk g v es t) old walk) in (
        rest.0,
        rest.1,
        rest.2,
        (k, (cut.arcs i e k within within_k).1 (subst (λ v. Step g (get_or kept i 0) e v) old step), rest.3),
      )

  pub cut_connected : IsConnected h
  cut_connected s below =
      let within : s < length kept = omega (arith, below, cut.count) in
      let walk = (cut.reachable _).0 (Contains-get_or kept s 0 within) in
      let start = get_or_from_slice_get kept h.start g.start 0 cut.start_kept in
      let there = kept_walk walk.0 h.start (get_or kept s 0) (slice_get_within kept h.start g.start cut.start_kept)
      (subst (λ v. Walk g v walk.0 (get_or kept s 0)) (sym start) walk.1) in (
        walk.0,
        subst (λ j. Walk h h.start walk.0 j) (one_place kept cut.in_order there.0 s there.1 within there.2) there.3,
      )
