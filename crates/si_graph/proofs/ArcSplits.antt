-- In an ordered list of arcs, those of one source and one event are neighbours.
use Rattle.std.proofs.Common.{◌≡◌, ℕ, ◌+◌, ◌-◌, ◌<◌, ◌≤◌, ◌==◌, true, List, [], ◌∷◌, length, get_or, refl}
use Rattle.std.proofs.Common.{sym, ap, ap₂, ◌∙◌, arith, inl, inr, Less, eqb-true}
use Rattle.std.proofs.lemmas.Bool.{cases_eq, cases_order}
use Rattle.std.proofs.lemmas.List.{get_or_default, get_or_read}
use Rattle.std.specs.List.Sorted.{IsStrictlySortedBy}
use Rattle.si_base.specs.declared.ids.Event.{Event}
use Rattle.si_base.specs.declared.graph.Edge.{Edge}
use Rattle.si_base.specs.EdgeOrder.{edge_cmp}
use Rattle.si_base.specs.Order.{Before, IsFirst}
use Rattle.si_base.specs.Graph.{StateGraph, Step, arc, event_place, same_event}
use Rattle.si_base.specs.Codes.{IsDeterministic}
use Rattle.si_base.specs.Proper.{Split, split_place, Splits}
use Rattle.si_base.proofs.OrderAscending.{sorted_at, nat_less}
use Rattle.si_base.proofs.GraphSteps.{same_event-true}
use Rattle.si_graph.specs.Loops.Arcs.{edge_at, no_edge}
use Rattle.si_graph.proofs.OrderLemmas.{then_Less, place_lt, event_from_place, nat_Equal, event_Equal}

-- the numbers by which arcs are compared
abbrev pub arc_place : Edge → List ℕ
arc_place x = x.from ∷ event_place x.event ∷ x.to ∷ []

-- of two arcs of an ordered list the earlier one has the lower place
pub before_in_order : (x y : Edge) → edge_cmp x y ≡ Less → Before (arc_place x) (arc_place y)
before_in_order x y h = elim (then_Less _ _ h) [
  | inl less ↦ inl (nat_less x.from y.from less)
  | inr tied ↦ inr (
    nat_Equal x.from y.from tied.0,
    elim (then_Less _ _ tied.1) [
      | inl less ↦ inl (place_lt x.event y.event less)
      | inr also ↦ inr (event_Equal x.event y.event also.0, inl (nat_less x.to y.to also.1))
    ],
  )
]

-- the two arcs have one source and one event
pub record IsSameStep (x y : Edge) : Type 0 where
  pub from : x.from ≡ y.from
  pub event : event_place x.event ≡ event_place y.event

-- between two arcs of one step all are of that step
between : (x y z : Edge) → Before (arc_place x) (arc_place y) → Before (arc_place y) (arc_place z)
    → IsSameStep x z → IsSameStep x y
between x y z one other same = record { from = grind arith; event = grind arith }

-- arcs of one step are ordered by their targets
targets_apart : (x y : Edge) → Before (arc_place x) (arc_place y) → IsSameStep x y → x.to < y.to
targets_apart x y less same = grind arith

abbrev split_by : Edge → Edge → Split
split_by x y = record { s = x.from; e = x.event; t = x.to; u = y.to }

-- a split whose first arc comes after x isn't before that of x
not_after : (x y : Edge) (b : Split) → Before (arc_place x) (arc_place (arc b.s b.e b.t))
    → Before (split_place b) (split_place (split_by x y)) → ⊥
not_after x y b after before = grind arith

-- of two splits by x the earlier one has the lower second target
second_lower : (x y : Edge) (b : Split) → x ≡ arc b.s b.e b.t
    → Before (split_place b) (split_place (split_by x y)) → b.u < y.to
second_lower x y b same before =
    let from : x.from ≡ b.s = ap (λ (a : Edge). a.from) same in
    let event : event_place x.event ≡ event_place b.e = ap (λ (a : Edge). event_place a.event) same in
    let to : x.to ≡ b.t = ap (λ (a : Edge). a.to) same in
    grind arith

-- a step stands at a place
pub placed : (g : StateGraph) (s : ℕ) (e : Event) (t : ℕ) → Step g s e t
    → (k : ℕ) × (k < length g.edges) × (edge_at g.edges k ≡ arc s e t)
placed g s e t step = (step.0, step.1, get_or_default g.edges step.0 no_edge (arc s e t) step.1 ∙ step.2)

-- the arc at a place is a step by its source and event
step_as : (g : StateGraph) (k s : ℕ) (e : Event) → k < length g.edges → (edge_at g.edges k).from ≡ s
    → (edge_at g.edges k).event ≡ e → Step g s e (edge_at g.edges k).to
step_as g k s e within from event =
    let make : ℕ → Event → Edge = λ m f. arc m f (edge_at g.edges k).to in
    let whole : edge_at g.edges k ≡ arc s e (edge_at g.edges k).to = ap₂ make from event in
    (k, within, get_or_default g.edges k (arc s e (edge_at g.edges k).to) no_edge within ∙ whole)

-- the arc at a place is a step
pub step_at : (g : StateGraph) (k : ℕ) → k < length g.edges
    → Step g (edge_at g.edges k).from (edge_at g.edges k).event (edge_at g.edges k).to
step_at g k within = (k, within, get_or_default g.edges k (edge_at g.edges k) no_edge within)

module _ (edges : List Edge) (ordered : IsStrictlySortedBy edge_cmp edges) where
  in_order : (i j : ℕ) → i < j → j < length edges → Before (arc_place (edge_at edges i)) (arc_place (edge_at edges j))
  in_order i j less within = before_in_order _ _ (sorted_at edge_cmp edges ordered i j no_edge less within)

  pub same_neighbour : (i j : ℕ) → i < j → j < length edges → IsSameStep (edge_at edges i) (edge_at edges j)
      → IsSameStep (edge_at edges i) (edge_at edges (i + 1))
  same_neighbour i j less within same = elim (cases_eq (i + 1) j) [
    | inl next ↦ rw next same
    | inr more ↦ between (edge_at edges i) (edge_at edges (i + 1)) (edge_at edges j)
        (in_order i (i + 1) (omega arith) (omega arith)) (in_order (i + 1) j (omega arith) within) same
  ]

module _ (g : StateGraph) (ordered : IsStrictlySortedBy edge_cmp g.edges) (k : ℕ)
    (none : (j : ℕ) → j + 1 < k → IsSameStep (edge_at g.edges j) (edge_at g.edges (j + 1)) → ⊥) where
  -- no two arcs of one step, the first of them before place k - 1
  none_before : (i j : ℕ) → i < j → i + 1 < k → j < length g.edges
      → IsSameStep (edge_at g.edges i) (edge_at g.edges j) → ⊥
  none_before i j less early within same = none i early (same_neighbour g.edges ordered i j less within same)

  pub deterministic : length g.edges ≤ k → IsDeterministic g
  deterministic all s e t u one other =
      let i = placed g s e t one in
      let j = placed g s e u other in
      elim (cases_order i.0 j.0) [
        | inl same ↦ ap (λ (x : Edge). x.to) (sym i.2 ∙ ap (edge_at g.edges) same ∙ j.2)
        | inr (inl less) ↦ absurd (none_before i.0 j.0 less (omega (arith, j.1)) j.1
            (record { from = rw (i.2, j.2) refl; event = rw (i.2, j.2) refl }))
        | inr (inr more) ↦ absurd (none_before j.0 i.0 more (omega (arith, i.1)) i.1
            (record { from = rw (i.2, j.2) refl; event = rw (i.2, j.2) refl }))
      ]

  -- the first two neighbours of one step are the first split
  pub first : (h : ℕ) → h + 1 ≡ k → k < length g.edges → IsSameStep (edge_at g.edges h) (edge_at g.edges k)
      → IsFirst split_place (Splits g) (record {
        s = (edge_at g.edges h).from;
        e = (edge_at g.edges h).event;
        t = (edge_at g.edges h).to;
        u = (edge_at g.edges k).to;
      })
  first h next within same = record { holds = found; none_before = earliest }
    where
      h_in : h < length g.edges
      h_in = omega arith

      order : Before (arc_place (edge_at g.edges h)) (arc_place (edge_at g.edges k))
      order = in_order g.edges ordered h k (omega arith) within

      found : Splits g (record {
        s = (edge_at g.edges h).from;
        e = (edge_at g.edges h).event;
        t = (edge_at g.edges h).to;
        u = (edge_at g.edges k).to;
      })
      found = record {
        one = step_at g h h_in;
        other = step_as g k (edge_at g.edges h).from (edge_at g.edges h).event within (sym same.from)
            (event_from_place _ _ (sym same.event));
        apart = targets_apart (edge_at g.edges h) (edge_at g.edges k) order same;
      }

      earliest : (b : Split) → Splits g b → Before (split_place b) (split_place (record {
        s = (edge_at g.edges h).from;
        e = (edge_at g.edges h).event;
        t = (edge_at g.edges h).to;
        u = (edge_at g.edges k).to;
      })) → ⊥
      earliest b splits before =
          let i = placed g b.s b.e b.t splits.one in
          let j = placed g b.s b.e b.u splits.other in
          let pair : IsSameStep (edge_at g.edges i.0) (edge_at g.edges j.0) =
          record { from = rw (i.2, j.2) refl; event = rw (i.2, j.2) refl } in
          let forth : i.0 < j.0 = elim (cases_order i.0 j.0) [
            | inl one ↦ (
                let tied : b.t ≡ b.u = ap (λ (a : Edge). a.to) (sym i.2 ∙ ap (edge_at g.edges) one ∙ j.2) in
                absurd (omega (arith, splits.apart)))
            | inr (inl less) ↦ less
            | inr (inr more) ↦ (
                let back : Before (arc_place (arc b.s b.e b.u)) (arc_place (arc b.s b.e b.t)) =
                rw (j.2, i.2) at (in_order g.edges ordered j.0 i.0 more i.1) in
                let lower =
                targets_apart (arc b.s b.e b.u) (arc b.s b.e b.t) back (record { from = refl; event = refl }) in
                absurd (omega (arith, splits.apart)))
          ] in
          elim (cases_order i.0 h) [
            | inl one ↦ (
                let is : edge_at g.edges h ≡ arc b.s b.e b.t = ap (edge_at g.edges) (sym one) ∙ i.2 in
                let lower = second_lower (edge_at g.edges h) (edge_at g.edges k) b is before in
                elim (cases_eq j.0 k) [
                  | inl at_k ↦ (
                      let tied : (edge_at g.edges k).to ≡ b.u =
                      ap (λ (a : Edge). a.to) (ap (edge_at g.edges) (sym at_k) ∙ j.2) in
                      absurd (omega arith))
                  | inr past ↦ (
                      let up : Before (arc_place (edge_at g.edges k)) (arc_place (arc b.s b.e b.u)) =
                      rw j.2 at (in_order g.edges ordered k j.0 (omega arith) j.1) in
                      let step : IsSameStep (edge_at g.edges k) (arc b.s b.e b.u) = record {
                        from = sym same.from ∙ ap (λ (a : Edge). a.from) is;
                        event = sym same.event ∙ ap (λ (a : Edge). event_place a.event) is;
                      } in
                      let higher = targets_apart (edge_at g.edges k) (arc b.s b.e b.u) up step in
                      absurd (omega arith))
                ])
            | inr (inl early) ↦ none_before i.0 j.0 forth (omega arith) j.1 pair
            | inr (inr late) ↦ not_after (edge_at g.edges h) (edge_at g.edges k) b
                (rw i.2 at (in_order g.edges ordered h i.0 late i.1)) before
          ]

-- what a loop over the arcs has found in its list of them
pub found_first : (g : StateGraph) (ordered : IsStrictlySortedBy edge_cmp g.edges) (k : ℕ)
    (none : (j : ℕ) → j + 1 < k → IsSameStep (edge_at g.edges j) (edge_at g.edges (j + 1)) → ⊥)
    (arcs : List Edge) (x y : Edge) → arcs ≡ g.edges → 1 ≤ k → k < length arcs
    → x ≡ get_or arcs (k - 1) x → y ≡ get_or arcs k y
    → (x.from == y.from) ≡ true → same_event x.event y.event ≡ true
    → IsFirst split_place (Splits g) (record { s = x.from; e = x.event; t = x.to; u = y.to })
found_first g ordered k none arcs x y are above within at_x at_y from event =
    let x_is : x ≡ edge_at g.edges (k - 1) =
    get_or_read arcs (k - 1) x (omega arith) at_x no_edge ∙ ap (λ (es : List Edge). edge_at es (k - 1)) are in
    let y_is : y ≡ edge_at g.edges k =
    get_or_read arcs k y within at_y no_edge ∙ ap (λ (es : List Edge). edge_at es k) are in
    let same : IsSameStep (edge_at g.edges (k - 1)) (edge_at g.edges k) = record {
      from = ap (λ (a : Edge). a.from) (sym x_is) ∙ eqb-true x.from y.from from ∙ ap (λ (a : Edge). a.from) y_is;
      event = ap (λ (a : Edge). event_place a.event) (sym x_is) ∙ ap event_place (same_event-true x.event y.event event)
          ∙ ap (λ (a : Edge). event_place a.event) y_is;
    } in
    rw (x_is, y_is) (first g ordered k none (k - 1) (omega arith) (omega (arith, ap length are)) same)
