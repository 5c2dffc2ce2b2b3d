-- Each graph has a cut to its reachable states.
use Rattle.std.proofs.Common.{◌≡◌, ℕ, zero, suc, ◌+◌, ◌<◌, ◌⊎◌, ◌↔◌, ◌∙◌, Bool, true, false, not, cond, List, [], ◌∷◌}
use Rattle.std.proofs.Common.{length, get_or, set, Contains, All, refl, sym, subst, arith, inl, inr, length-set}
use Rattle.std.proofs.Common.{slice_index_or}
use Rattle.std.proofs.Math.ListN.{replicate}
use Rattle.std.proofs.lemmas.Bool.{cases_Bool, true≢false}
use Rattle.std.proofs.lemmas.List.{length-replicate}
use Rattle.std.proofs.lemmas.List.Elements.{All-contains, Contains-get_or}
use Rattle.std.proofs.lemmas.List.Sums.{sum_by-set}
use Rattle.si_base.specs.declared.ids.Event.{Event}
use Rattle.si_base.specs.declared.graph.Edge.{Edge}
use Rattle.si_base.specs.Graph.{Walk, StateGraph, IsReachable, IsGraph, IsMadeOf, IsCut, arc}
use Rattle.si_base.proofs.RightGateLemmas.{step_within}
use Rattle.si_base.specs.Sets.{IsIn}
use Rattle.si_graph.specs.Loops.Reach.{unmarked}
use Rattle.si_graph.specs.Loops.Renaming.{Renames}
use Rattle.si_graph.proofs.ArcFacts.{IsInside}
use Rattle.si_graph.proofs.CutLemmas.{new_arcs, new_arcs_few, new_arcs_inside, start_within, made_is_cut}
use Rattle.si_graph.proofs.SearchLemmas.{stays_in, in_cases, is_set, reachable-step, in_none}
use Rattle.si_graph.proofs.ListMembers.{Contains-cons_cases, Contains-here, Contains-there, Contains-nil}
use Rattle.si_graph.proofs.RenamingLemmas.{Renames-marked, Renames-unmarked}
use Rattle.si_graph.proofs.ArcsInOrder.{arcs_in_order}

-- ---- marks of the reachable states
-- an arc leads out of the marked states
abbrev Leaves : List Bool → Edge → Type 0
Leaves marks a = IsIn marks a.from × (slice_index_or marks a.to false ≡ false)

leaving : (marks : List Bool) (arcs : List Edge)
    → ((a : Edge) × Contains arcs a × Leaves marks a) ⊎
    ((a : Edge) → Contains arcs a → IsIn marks a.from → IsIn marks a.to)
leaving marks [] = inr (λ a there. absurd (Contains-nil a there))
leaving marks (x ∷ arcs) = elim (leaving marks arcs) [
  | inl found ↦ inl (found.0, Contains-there x arcs found.0 found.1, found.2)
  | inr none ↦ elim (cases_Bool (slice_index_or marks x.to false)) [
    | inl inside ↦ inr (λ a there from. elim (Contains-cons_cases x arcs a there) [
      | inl same ↦ subst (λ (y : Edge). IsIn marks y.to) same inside
      | inr later ↦ none a later from
    ])
    | inr outside ↦ elim (cases_Bool (slice_index_or marks x.from false)) [
      | inl from ↦ inl (x, Contains-here x arcs, (from, outside))
      | inr not_from ↦ inr (λ a there from. elim (Contains-cons_cases x arcs a there) [
        | inl same ↦ absurd (true≢false (sym (subst (λ (y : Edge). IsIn marks y.from) (sym same) from) ∙ not_from))
        | inr later ↦ none a later from
      ])
    ]
  ]
]

module _ (g : StateGraph) (is : IsGraph g) where
  -- marks of reachable states, the start among them
  record AreReached (marks : List Bool) : Type 0 where
    size : length marks ≡ g.states
    begun : IsIn marks g.start
    sound : (t : ℕ) → IsIn marks t → IsReachable g t

  to_within : (a : Edge) → Contains g.edges a → a.to < g.states
  to_within a there = (step_within g a.from a.event a.to is there).2

  reach_more : (marks : List Bool) → AreReached marks → (a : Edge) → Contains g.edges a → Leaves marks a
      → AreReached (set marks a.to true)
  reach_more marks are a there leaves =
      let within : a.to < length marks = omega (arith, are.size, to_within a there) in
      record {
        size = length-set marks a.to true ∙ are.size;
        begun = stays_in marks a.to g.start within are.begun;
        sound = λ t inside. elim (in_cases marks a.to t inside) [
          | inl same ↦ subst (IsReachable g) (sym same)
              (reachable-step g a.from a.to a.event (are.sound a.from leaves.0) there)
          | inr old ↦ are.sound t old
        ];
      }

  fewer : (marks : List Bool) → AreReached marks → (a : Edge) → Contains g.edges a → Leaves marks a
      → unmarked (set marks a.to true) < unmarked marks
  fewer marks are a there leaves =
      let within : a.to < length marks = omega (arith, are.size, to_within a there) in
      omega (arith, rw leaves.1 at (sum_by-set (λ x. cond (not x) 1 0) marks a.to true false within))

  -- marks of just the reachable states
  record AreReachable (marks : List Bool) : Type 0 where
    size : length marks ≡ g.states
    exact : (t : ℕ) → IsIn marks t ↔ IsReachable g t

  -- from marked states arcs lead to marked states alone, and so do walks
  marked_along : (marks : List Bool) → ((a : Edge) → Contains g.edges a → IsIn marks a.from → IsIn marks a.to)
      → (es : List Event) (s t : ℕ) → IsIn marks s → Walk g s es t → IsIn marks t
  marked_along marks into [] s t here walk = subst (IsIn marks) walk here
  marked_along marks into (e ∷ es) s t here (u, step, walk) =
      marked_along marks into es u t (into (arc s e u) step here) walk

  closed : (marks : List Bool) → AreReached marks
      → ((a : Edge) → Contains g.edges a → IsIn marks a.from → IsIn marks a.to) → AreReachable marks
  closed marks are into = record {
    size = are.size;
    exact = λ t. (are.sound t, λ walk. marked_along marks into walk.0 g.start t are.begun walk.1);
  }

  spread : (n : ℕ) (marks : List Bool) → unmarked marks < n → AreReached marks
      → (done : List Bool) × AreReachable done
  spread zero marks below are = absurd (omega arith)
  spread (suc n) marks below are = elim (leaving marks g.edges) [
    | inl found ↦ spread n (set marks found.0.to true) (omega (arith, fewer marks are found.0 found.1 found.2))
        (reach_more marks are found.0 found.1 found.2)
    | inr none ↦ (marks, closed marks are none)
  ]

  some_marks : (done : List Bool) × AreReachable done
  some_marks =
      let blank : List Bool = replicate g.states false in
      let size : length blank ≡ g.states = length-replicate g.states false in
      let first : List Bool = set blank g.start true in
      let within : g.start < length blank = omega (arith, is.starts) in
      spread (unmarked first + 1) first (omega arith) (record {
        size = length-set blank g.start true ∙ size;
        begun = is_set blank g.start within;
        sound = λ t inside. elim (in_cases blank g.start t inside) [
          | inl same ↦ ([], sym same)
          | inr old ↦ absurd (in_none g.states t old)
        ];
      })

-- ---- places of the marked states
some_places : (marks : List Bool) (n : ℕ) → (kept : List ℕ) × (places : List ℕ) × Renames marks n kept places
some_places marks zero = (
  [],
  [],
  record {
    in_order = λ i j d before within. absurd (omega arith);
    members = λ t. ((λ there. absurd (Contains-nil t there)), (λ below. absurd (omega (arith, below.0))));
    few = omega arith;
    size = refl;
    places_are = λ t below inside. absurd (omega arith);
  },
)
some_places marks (suc n) =
    let r = some_places marks n in
    let next : n + 1 ≡ suc n = omega arith in
    let P : List ℕ → List ℕ → ℕ → Type 0 = λ kept places k. Renames marks k kept places in
    elim (cases_Bool (slice_index_or marks n false)) [
      | inl inside ↦ (
        _,
        _,
        subst (P _ _) next
            (Renames-marked marks n (length r.0) r.0 _ r.1 _ refl r.2 inside refl refl),
      )
      | inr outside ↦ (
        r.0,
        _,
        subst (P r.0 _) next
            (Renames-unmarked marks n r.0 r.1 _ 0 r.2 (λ inside. true≢false (sym inside ∙ outside)) refl),
      )
    ]

-- ---- the cut
module _ (g : StateGraph) (is : IsGraph g) (marks : List Bool) (kept places : List ℕ)
    (r : Renames marks (length marks) kept places) (exact : (t : ℕ) → IsIn marks t ↔ IsReachable g t)
    (size : length marks ≡ g.states) where
  cut_from : (h : StateGraph) × IsCut g kept h
  cut_from =
      let arcs : List Edge = new_arcs g marks places in
      let o = arcs_in_order arcs in
      let ordered : List Edge = o.0 in
      let are = o.1 in
      let start = get_or places g.start 0 in
      let h : StateGraph = record { signals = g.signals; states = length kept; edges = o.0; start = start } in
      let Inside = IsInside (length kept) (length g.signals) in
      let inside : All Inside arcs = new_arcs_inside g is marks kept places r exact in
      let made : IsMadeOf g.signals (length kept) arcs (get_or places g.start 0) h = record {
        signals_are = refl;
        states_are = refl;
        start_is = refl;
        graph = record {
          few_states = omega (arith, r.few, size, is.few_states);
          few_signals = is.few_signals;
          few_edges = omega (arith, are.no_longer, new_arcs_few g marks places, is.few_edges);
          within =
              λ k d within.
              let a = get_or o.0 k d in
              All-contains Inside arcs a inside ((are.same a).0 (Contains-get_or o.0 k d within));
          starts = start_within g is marks kept places r exact;
          kinds = is.kinds;
          names = is.names;
          ordered = are.sorted;
        };
        arcs = are.same;
      } in
      (h, made_is_cut g is marks kept places r exact h made)

pub some_cut : (g : StateGraph) → IsGraph g → (kept : List ℕ) × (h : StateGraph) × IsCut g kept h
some_cut g is =
    let marks = some_marks g is in
    let r = some_places marks.0 (length marks.0) in
    let cut = cut_from g is marks.0 r.0 r.1 r.2 marks.1.exact marks.1.size in
    (r.0, cut.0, cut.1)
