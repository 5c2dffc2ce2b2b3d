-- Where the arcs out of a state stand among arcs in order.
use Rattle.std.proofs.Common.{◌≡◌, ℕ, ◌<◌, ◌≤◌, ◌+◌, ◌-◌, sym, ap, ◌∙◌, List, length, get_or, take, drop}
use Rattle.std.proofs.Common.{arith, inl, inr, Contains, length-take, length-drop}
use Rattle.std.specs.List.Sorted.{IsStrictlySortedBy}
use Rattle.std.proofs.lemmas.Bool.{cases_lt}
use Rattle.std.proofs.lemmas.List.{get_or_default, get_or-drop, get_or-take}
use Rattle.si_base.specs.declared.graph.Edge.{Edge}
use Rattle.si_base.specs.EdgeOrder.{edge_cmp}
use Rattle.si_graph.specs.Loops.Arcs.{no_edge, edge_at, IsOutOf, IsFirstFrom}
use Rattle.si_graph.specs.Loops.Starts.{AreBelow, IsStart}
use Rattle.si_graph.proofs.OrderLemmas.{from_le, in_order, rising_from, sorted_take, sorted_drop}

-- ---- starts
-- the first k arcs leave states below s, and the next one, if there is one, doesn't
module _ (edges : List Edge) (s k : ℕ) (sorted : IsStrictlySortedBy edge_cmp edges) (below : AreBelow edges s k)
    (ends : ((k < length edges) × ((edge_at edges k).from < s)) → ⊥) where
  next_from : k < length edges → s ≤ (edge_at edges k).from
  next_from there = elim (cases_lt (edge_at edges k).from s) [
    | inl less ↦ absurd (ends (there, less))
    | inr le ↦ le
  ]

  later_from : (j : ℕ) → k ≤ j → j < length edges → s ≤ (edge_at edges j).from
  later_from j after there =
      let first : s ≤ (edge_at edges k).from = next_from (omega arith) in
      let rising : (edge_at edges k).from ≤ (edge_at edges j).from = rising_from edges sorted k j no_edge after there in
      omega (arith, first, rising)

  pub start_here : IsStart edges s k
  start_here = record {
    up_to = below.up_to;
    parts = (
      λ j d from before. rw (get_or_default edges j d no_edge (omega (arith, below.up_to))) (below.each j before),
      λ j d from there. rw (get_or_default edges j d no_edge there) (later_from j from there),
    );
  }

-- ---- the arcs out of a state
-- they stand from its start up to the start of the next state
module _ (edges : List Edge) (s low high : ℕ) (first : IsStart edges s low) (last : IsStart edges (s + 1) high) where
  pub low_le_high : low ≤ high
  low_le_high = elim (cases_lt high low) [
    | inl less ↦ absurd (omega (
      arith,
      first.parts.0 high no_edge (omega arith) less,
      last.parts.1 high no_edge (omega arith) (omega (arith, first.up_to)),
    ))
    | inr le ↦ le
  ]

  run_length : length (drop low (take high edges)) ≡ high - low
  run_length = omega (arith, length-take high edges, length-drop low (take high edges), last.up_to)

  run_at : (k : ℕ) (d : Edge) → low + k < high → get_or (drop low (take high edges)) k d ≡ get_or edges (low + k) d
  run_at k d within = get_or-drop low (take high edges) k d ∙ get_or-take high edges (low + k) d within

  pub run_out : (a : Edge) → Contains (drop low (take high edges)) a → Contains edges a × (a.from ≡ s)
  run_out a (k, within, at) =
      let here : low + k < high = omega (arith, run_length) in
      let edge : get_or edges (low + k) a ≡ a = sym (run_at k a here) ∙ at in
      let inside : low + k < length edges = omega (arith, last.up_to) in
      let from_low : s ≤ (get_or edges (low + k) a).from = first.parts.1 (low + k) a (omega arith) inside in
      let below_next : (get_or edges (low + k) a).from < s + 1 =
      last.parts.0 (low + k) a (omega arith) (omega arith) in (
        (low + k, inside, edge),
        omega (arith, ap (λ (x : Edge). x.from) edge),
      )

  pub run_in : (a : Edge) → Contains edges a → a.from ≡ s → Contains (drop low (take high edges)) a
  run_in a (k, within, at) from =
      let source : (get_or edges k a).from ≡ s = ap (λ (x : Edge). x.from) at ∙ from in
      let above : low ≤ k = elim (cases_lt k low) [
        | inl before ↦ absurd (omega (arith, first.parts.0 k a (omega arith) before))
        | inr after ↦ after
      ] in
      let below : k < high = elim (cases_lt k high) [
        | inl before ↦ before
        | inr after ↦ absurd (omega (arith, last.parts.1 k a after within))
      ] in
      let moved : low + (k - low) ≡ k = omega arith in (
        k - low,
        omega (arith, run_length),
        run_at (k - low) a (omega arith) ∙ ap (λ (n : ℕ). get_or edges n a) moved ∙ at,
      )

  pub run_ordered : IsStrictlySortedBy edge_cmp edges → IsStrictlySortedBy edge_cmp (drop low (take high edges))
  run_ordered ordered = sorted_drop edge_cmp low (take high edges) (sorted_take edge_cmp high edges ordered)

  -- the first of them stands at its start, if there is any
  pub first_at_start : low < high → IsFirstFrom (IsOutOf edges s) 0 (length edges) low
  first_at_start some = record {
    from = omega arith;
    below = omega (arith, last.up_to);
    holds = omega (
      arith,
      first.parts.1 low no_edge (omega arith) (omega (arith, last.up_to)),
      last.parts.0 low no_edge (omega (arith, last.up_to)) some,
    );
    none_before = λ j from before is. omega (arith, first.parts.0 j no_edge (omega (arith, first.up_to)) before, is);
  }

  pub none_from_start : high ≤ low → (j : ℕ) → j < length edges → IsOutOf edges s j → ⊥
  none_from_start none j within is = elim (cases_lt j low) [
    | inl before ↦ omega (arith, first.parts.0 j no_edge (omega arith) before, is)
    | inr after ↦ omega (arith, last.parts.1 j no_edge (omega arith) within, is)
  ]

-- ---- the next arc out of the source of one
-- it stands behind that one, if the arcs out of the source go on
module _ (edges : List Edge) (k high : ℕ) (last : IsStart edges ((edge_at edges k).from + 1) high) where
  pub next_behind : IsStrictlySortedBy edge_cmp edges → k + 1 < high
      → IsFirstFrom (IsOutOf edges (edge_at edges k).from) (k + 1) (length edges) (k + 1)
  next_behind ordered more = record {
    from = omega arith;
    below = omega (arith, last.up_to);
    holds = (
        let within : k + 1 < length edges = omega (arith, last.up_to) in
        omega (
          arith,
          from_le (edge_at edges k) (edge_at edges (k + 1))
              (in_order edges ordered k (k + 1) no_edge (omega arith) within),
          last.parts.0 (k + 1) no_edge (omega arith) more,
        ));
    none_before = λ j from before is. omega arith;
  }

  pub none_behind : high ≤ k + 1 → (j : ℕ) → k + 1 ≤ j → j < length edges
      → IsOutOf edges (edge_at edges k).from j → ⊥
  none_behind none j from within is = omega (arith, last.parts.1 j no_edge (omega arith) within, is)
