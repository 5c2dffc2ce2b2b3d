-- Events that lead from a state to several: the arcs of one event stand side by side, by their targets.
use Rattle.std.proofs.Common.{◌≡◌, ℕ, zero, suc, ◌-◌, ◌<◌, ◌≤◌, List, [], ◌∷◌, ◌++◌, length, get_or, Contains, refl, sym, ap}
use Rattle.std.proofs.Common.{subst, ◌∙◌, ◌↔◌, arith, inl, inr}
use Rattle.std.proofs.lemmas.Bool.{cases_lt, cases_eq, cases_order}
use Rattle.std.proofs.lemmas.List.{get_or_default, get_or-take, length-take}
use Rattle.std.specs.List.Sorted.{IsStrictlySortedBy}
use Rattle.si_base.specs.declared.ids.Event.{Event}
use Rattle.si_base.specs.declared.graph.Edge.{Edge}
use Rattle.si_base.specs.EdgeOrder.{edge_cmp}
use Rattle.si_base.specs.Graph.{StateGraph, Step, IsGraph, arc, event_place}
use Rattle.si_base.specs.Codes.{IsDeterministic}
use Rattle.si_base.specs.Order.{Before}
use Rattle.si_base.specs.Proper.{Split, Splits, split_place}
use Rattle.si_base.proofs.OrderLemmas.{before_apart, before_itself}
use Rattle.si_checks.proofs.SearchDecisions.{both, equal_events, less, some_of}
use Rattle.si_checks.proofs.UniqueBreaches.{split_breaches}
use Rattle.si_graph.proofs.OrderLemmas.{event_from_place}
use Rattle.si_told.specs.All.{arc_place}
use Rattle.si_breaches.specs.Breaches.{IsSplit}
use Rattle.si_breaches.specs.Loops.Breaches.{AreOneStep, split_of, IsSecond}
use Rattle.si_told.specs.Loops.Search.{Adds, IsOfFirst}
use Rattle.si_told.proofs.Alls.{adds_none, adds_one}
use Rattle.si_told.proofs.ArcOrder.{arcs_before}

-- arcs of one event from one state come by their targets
by_targets : (s : ℕ) (e : Event) (t u : ℕ) → t < u → Before (arc_place (arc s e t)) (arc_place (arc s e u))
by_targets s e t u less = inr (refl, inr (refl, inl less))

-- of three arcs in order, the outer ones of one step, the one in between is of that step too
between : (x y z : Edge) → Before (arc_place x) (arc_place y) → Before (arc_place y) (arc_place z)
    → AreOneStep x z → (x.from ≡ y.from) × (event_place x.event ≡ event_place y.event)
between x y z one other same =
    let from : x.from ≡ z.from = same.from in
    let event : event_place x.event ≡ event_place z.event = ap event_place same.event in
    (grind arith, grind arith)

pub same_split : (x y : Split) → x.s ≡ y.s → x.e ≡ y.e → x.t ≡ y.t → x.u ≡ y.u → x ≡ y
same_split x y state event one other = λ i. record { s = state i; e = event i; t = one i; u = other i }

module _ (g : StateGraph) (arcs : List Edge) (is : IsGraph g) (same : arcs ≡ g.edges) where
  sorted : IsStrictlySortedBy edge_cmp arcs
  sorted = subst (IsStrictlySortedBy edge_cmp) (sym same) is.ordered

  abbrev At : ℕ → Edge → Type 0
  At i a = (i < length arcs) × (get_or arcs i a ≡ a)

  placed : (a : Edge) → Contains g.edges a → (i : ℕ) × At i a
  placed a there =
      let p : Contains arcs a = subst (λ (l : List Edge). Contains l a) (sym same) there in (p.0, (p.1, p.2))

  found : (i : ℕ) (a : Edge) → At i a → Contains g.edges a
  found i a at = subst (λ (l : List Edge). Contains l a) same (i, at.0, at.1)

  -- of two the one at the lower place comes earlier
  earlier : (m n : ℕ) (x y : Edge) → At m x → At n y → m < n → Before (arc_place x) (arc_place y)
  earlier m n x y one other less = arcs_before arcs sorted m n x less other.0 x y one.1
      (get_or_default arcs n x y other.0 ∙ other.1)

  -- the earlier one stands at the lower place
  lower : (i j : ℕ) (a b : Edge) → At i a → At j b → Before (arc_place a) (arc_place b) → i < j
  lower i j a b at also before = elim (cases_order i j) [
    | inl tied ↦ (
        let equal : a ≡ b = sym at.1 ∙ ap (λ (k : ℕ). get_or arcs k a) tied ∙ get_or_default arcs j a b also.0 ∙ also.1 in
        absurd (before_itself (arc_place b) (subst (λ (c : Edge). Before (arc_place c) (arc_place b)) equal before)))
    | inr (inl less) ↦ less
    | inr (inr more) ↦ absurd (before_apart (arc_place a) (arc_place b) before (earlier j i b a also at more))
  ]

  pub split_order : (i j : ℕ) (d : Edge) → i < j → j < length arcs → (x y : Split) → IsSplit g x → IsSplit g y
      → IsSecond (get_or arcs i d) x → IsSecond (get_or arcs j d) y → Before (split_place x) (split_place y)
  split_order i j d before within x y p q one other =
      let order : Before (arc_place (arc x.s x.e x.u)) (arc_place (arc y.s y.e y.u)) =
      arcs_before arcs sorted i j d before within (arc x.s x.e x.u) (arc y.s y.e y.u) one other in
      elim order [
        | inl from ↦ inl from
        | inr tied ↦ elim tied.1 [
          | inl event ↦ inr (tied.0, inl event)
          | inr also ↦ elim also.1 [
            | inl to ↦ inr (tied.0, inr (also.0, inl (first tied.0 also.0 to)))
            | inr rest ↦ absurd rest.1
          ]
        ]
      ]
    where
      first : x.s ≡ y.s → event_place x.e ≡ event_place y.e → x.u < y.u → x.t < y.t
      first state place to = elim (cases_lt y.t x.u) [
        | inl less ↦ (
            let event : x.e ≡ y.e = event_from_place x.e y.e place in
            let step : Step g y.s y.e x.u = subst (λ (s : ℕ). Step g s y.e x.u) state
            (subst (λ (e : Event). Step g x.s e x.u) event p.splits.other) in
            absurd (q.next x.u less to step))
        | inr more ↦ omega (arith, p.splits.apart)
      ]

  -- ---- two arcs side by side
  module _ (k : ℕ) (x y : Edge) (more : 1 ≤ k) (within : k < length arcs) (at_x : x ≡ get_or arcs (k - 1) x)
      (at_y : y ≡ get_or arcs k y) where
    here : At k y
    here = (within, sym at_y)

    there : At (k - 1) x
    there = (omega arith, sym at_x)

    -- nothing stands between
    none_between : (a : Edge) → Contains g.edges a → Before (arc_place x) (arc_place a)
        → Before (arc_place a) (arc_place y) → ⊥
    none_between a is_arc after before =
        let m = placed a is_arc in
        let low = lower (k - 1) m.0 x a there m.1 after in
        let high = lower m.0 k a y m.1 here before in
        omega arith

    is_here : AreOneStep x y → IsSplit g (split_of x y)
    is_here step = record {
      splits = record {
        one = found (k - 1) x there;
        other = other;
        apart = apart;
      };
      next = λ v low high is_arc.
          none_between (arc x.from x.event v) is_arc (by_targets x.from x.event x.to v low) (before v high);
    }
      where
        other : Step g x.from x.event y.to
        other = subst (λ (s : ℕ). Step g s x.event y.to) (sym step.from)
            (subst (λ (e : Event). Step g y.from e y.to) (sym step.event) (found k y here))

        apart : x.to < y.to
        apart =
            let order = earlier (k - 1) k x y there here (omega arith) in
            let from = step.from in
            let event : event_place x.event ≡ event_place y.event = ap event_place step.event in
            grind arith

        before : (v : ℕ) → v < y.to → Before (arc_place (arc x.from x.event v)) (arc_place y)
        before v high = inr (step.from, inr (ap event_place step.event, inl high))

    pub split_here : (old new : List Split) → AreOneStep x y → new ≡ old ++ split_of x y ∷ []
        → Adds split_place (λ b. IsSplit g b × IsSecond y b) old new
    split_here old new step pushed =
        adds_one split_place (λ b. IsSplit g b × IsSecond y b) old new (split_of x y) (is_here step, second) equal
        pushed
      where
        second : IsSecond y (split_of x y)
        second = λ i. record { from = sym step.from i; event = sym step.event i; to = y.to }

        equal : (b : Split) → IsSplit g b × IsSecond y b → split_of x y ≡ b
        equal b (split, is_second) =
            let state : x.from ≡ b.s = step.from ∙ ap (λ (a : Edge). a.from) is_second in
            let event : x.event ≡ b.e = step.event ∙ ap (λ (a : Edge). a.event) is_second in
            let to : y.to ≡ b.u = ap (λ (a : Edge). a.to) is_second in
            let mine : Step g b.s b.e x.to = subst (λ (s : ℕ). Step g s b.e x.to) state
            (subst (λ (e : Event). Step g x.from e x.to) event (found (k - 1) x there)) in
            let less : x.to < b.u = omega (arith, (is_here step).splits.apart, to) in
            elim (cases_order x.to b.t) [
              | inl tied ↦ same_split (split_of x y) b state event tied to
              | inr (inl low) ↦ absurd (none_between (arc b.s b.e b.t) split.splits.one
                  (inr (state, inr (ap event_place event, inl low)))
                  (subst (λ (a : Edge). Before (arc_place (arc b.s b.e b.t)) (arc_place a)) (sym is_second)
                  (by_targets b.s b.e b.t b.u split.splits.apart)))
              | inr (inr high) ↦ absurd (split.next x.to high less mine)
            ]

    pub split_pass : (old : List Split) → (AreOneStep x y → ⊥)
        → Adds split_place (λ b. IsSplit g b × IsSecond y b) old old
    split_pass old apart = adds_none split_place (λ b. IsSplit g b × IsSecond y b) old none
      where
        none : (b : Split) → IsSplit g b × IsSecond y b → ⊥
        none b (split, is_second) =
            let one : Edge = arc b.s b.e b.t in
            let m = placed one split.splits.one in
            let before : Before (arc_place one) (arc_place y) =
            subst (λ (a : Edge). Before (arc_place one) (arc_place a)) (sym is_second)
            (by_targets b.s b.e b.t b.u split.splits.apart) in
            let low = lower m.0 k one y m.1 here before in
            let from : b.s ≡ y.from = sym (ap (λ (a : Edge). a.from) is_second) in
            let event : b.e ≡ y.event = sym (ap (λ (a : Edge). a.event) is_second) in
            elim (cases_eq m.0 (k - 1)) [
              | inl last ↦ (
                  let is_x : one ≡ x = sym m.1.1 ∙ ap (λ (i : ℕ). get_or arcs i one) last
                  ∙ get_or_default arcs (k - 1) one x there.0 ∙ sym at_x in
                  apart (record {
                    from = sym (ap (λ (a : Edge). a.from) is_x) ∙ from;
                    event = sym (ap (λ (a : Edge). a.event) is_x) ∙ event;
                  }))
              | inr sooner ↦ (
                  let step = between one x y (earlier m.0 (k - 1) one x m.1 there (omega arith))
                  (earlier (k - 1) k x y there here (omega arith)) (record { from = from; event = event }) in
                  apart (record {
                    from = sym step.0 ∙ from;
                    event = sym (event_from_place b.e x.event step.1) ∙ event;
                  }))
            ]

  -- the first arc is no second one
  pub none_first : (old : List Split) → Adds split_place (IsOfFirst (IsSplit g) IsSecond arcs 1) old old
  none_first old = adds_none split_place (IsOfFirst (IsSplit g) IsSecond arcs 1) old none
    where
      none : (b : Split) → IsOfFirst (IsSplit g) IsSecond arcs 1 b → ⊥
      none b (split, (a, (i, inside, at), second)) =
          let size = length-take 1 arcs in
          let place : At i a = (omega arith, sym (get_or-take 1 arcs i a (omega arith)) ∙ at) in
          let one : Edge = arc b.s b.e b.t in
          let m = placed one split.splits.one in
          let before : Before (arc_place one) (arc_place a) =
          subst (λ (c : Edge). Before (arc_place one) (arc_place c)) (sym second)
          (by_targets b.s b.e b.t b.u split.splits.apart) in
          let low = lower m.0 i one a m.1 place before in
          omega arith

  pub split_each : (b : Split) → IsSplit g b → (a : Edge) × Contains arcs a × IsSecond a b
  split_each b split = (
    arc b.s b.e b.u,
    subst (λ (l : List Edge). Contains l (arc b.s b.e b.u)) (sym same) split.splits.other,
    refl,
  )

-- ---- where there are none
pub no_split : (g : StateGraph) → ((b : Split) → Splits g b → ⊥) → IsDeterministic g
no_split g none s e t u one other = elim (cases_order t u) [
  | inl same ↦ same
  | inr (inl less) ↦ absurd (none (record { s = s; e = e; t = t; u = u })
      (record { one = one; other = other; apart = less }))
  | inr (inr more) ↦ absurd (none (record { s = s; e = e; t = u; u = t })
      (record { one = other; other = one; apart = more }))
]

module _ (g : StateGraph) (none : (b : Split) → IsSplit g b → ⊥) where
  -- between the states of a split there is a closer one, or none
  no_split_to : (n : ℕ) (b : Split) → b.u ≤ n → Splits g b → ⊥
  no_split_to zero b small splits = let apart = splits.apart in omega arith
  no_split_to (suc n) b small splits = elim (some_of (λ (x : Edge). (x.from ≡ b.s) × ((x.event ≡ b.e)
      × ((b.t < x.to) × (x.to < b.u)))) (λ x. both (cases_eq x.from b.s) (both (equal_events x.event b.e)
      (both (less b.t x.to) (less x.to b.u)))) g.edges) [
        | inl (x, there, (from, (event, (above, below)))) ↦ (
            let step : Step g b.s b.e x.to = subst (λ (s : ℕ). Step g s b.e x.to) from
            (subst (λ (e : Event). Step g x.from e x.to) event there) in
            no_split_to n (record { s = b.s; e = b.e; t = b.t; u = x.to }) (omega arith)
            (record { one = splits.one; other = step; apart = above }))
        | inr nothing ↦ none b (record {
          splits = splits;
          next = λ v above below step. nothing (arc b.s b.e v, step, (refl, (refl, (above, below))));
        })
      ]

  pub no_splits_deterministic : IsDeterministic g
  no_splits_deterministic = no_split g (λ b splits. no_split_to b.u b (omega arith) splits)

-- it has a split exactly where it isn't deterministic
pub splits_tell : (g : StateGraph) → ((b : Split) → IsSplit g b → ⊥) ↔ IsDeterministic g
splits_tell g = (no_splits_deterministic g, λ one b split. split_breaches g b split.splits one)
