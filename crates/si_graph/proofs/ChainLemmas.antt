-- Chains that are linked from the last arc to the first.
use Rattle.std.proofs.Common.{◌≡◌, ℕ, ◌+◌, ◌<◌, ◌≤◌, List, length, get_or, set, All, sym, subst, ◌∙◌, arith}
use Rattle.std.proofs.Common.{inl, inr, get_or-set_same, get_or-set_other, length-set, Option, Some, None, MatchOption}
use Rattle.std.proofs.lemmas.Bool.{cases_eq, cases_lt}
use Rattle.std.proofs.lemmas.List.{get_or_default, get_or_past}
use Rattle.si_base.specs.declared.graph.Edge.{Edge}
use Rattle.si_graph.specs.Loops.Arcs.{edge_at, no_edge, IsFirstFrom, IsFirstPlace}
use Rattle.si_graph.specs.Loops.Chains.{IsFirstOrEnd, AreLinked}

-- ---- a first place, or the end
is_first : (P : ℕ → Type 0) (low high k : ℕ) → IsFirstOrEnd P low high k → k < high → IsFirstFrom P low high k
is_first P low high k first below = record {
  from = first.from;
  below = below;
  holds = first.holds below;
  none_before = first.none_before;
}

none_at_end : (P : ℕ → Type 0) (low high k : ℕ) → IsFirstOrEnd P low high k → high ≤ k → (j : ℕ)
    → low ≤ j → j < high → P j → ⊥
none_at_end P low high k first past j from below = first.none_before j from (omega arith)

-- what stands at such a place is the first that has P, and the end stands for none
pub place_of : (P : ℕ → Type 0) (low high k : ℕ) (r : Option ℕ) → IsFirstOrEnd P low high k
    → MatchOption r (high ≤ k) (λ j. (j ≡ k) × (j < high)) → IsFirstPlace P low high r
place_of P low high k None first past = none_at_end P low high k first past
place_of P low high k (Some j) first is =
    let First : ℕ → Type 0 = λ n. IsFirstFrom P low high n in
    let below : j < high = is.1 in
    subst First (sym is.0) (is_first P low high k first (omega (arith, is.0)))

at_itself : (P : ℕ → Type 0) (high k : ℕ) → k ≤ high → (k < high → P k) → IsFirstOrEnd P k high k
at_itself P high k up_to holds = record {
  from = omega arith;
  up_to = up_to;
  holds = holds;
  none_before = λ j from before is. absurd (omega arith);
}

from_one_less : (P : ℕ → Type 0) (low high k : ℕ) → (P low → ⊥) → IsFirstOrEnd P (low + 1) high k
    → IsFirstOrEnd P low high k
from_one_less P low high k none first = record {
  from = omega (arith, first.from);
  up_to = first.up_to;
  holds = first.holds;
  none_before = λ j from before is. elim (cases_eq j low) [
    | inl same ↦ none (subst P same is)
    | inr other ↦ first.none_before j (omega arith) before is
  ];
}

module _ (end_of : Edge → ℕ) (states : ℕ) (edges : List Edge) where
  -- ---- one more arc, in front of the others
  pub linked_more : (k s : ℕ) (heads nexts : List ℕ) → AreLinked end_of states edges (k + 1) heads nexts
      → k < length edges → s ≡ end_of (edge_at edges k) → s < states
      → AreLinked end_of states edges k (set heads s k) (set nexts k (get_or heads s 0))
  linked_more k s heads nexts linked within is below = record {
    heads_count = length-set heads s k ∙ linked.heads_count;
    nexts_count = length-set nexts k (get_or heads s 0) ∙ linked.nexts_count;
    heads_are = λ t there. elim (cases_eq t s) [
      | inl same ↦ rw (same, get_or-set_same heads s k 0 (omega (arith, linked.heads_count)))
          (at_itself (λ j. end_of (edge_at edges j) ≡ s) (length edges) k (omega arith) (λ _. sym is))
      | inr other ↦ rw (get_or-set_other heads s t k 0 other) (from_one_less (λ j. end_of (edge_at edges j) ≡ t) k
          (length edges) (get_or heads t 0) (λ at. other (sym at ∙ sym is)) (linked.heads_are t there))
    ];
    nexts_are = λ j from inside. elim (cases_eq j k) [
      | inl same ↦
          rw (same, get_or-set_same nexts k (get_or heads s 0) 0 (omega (arith, linked.nexts_count))) (first_next)
      | inr other ↦ rw (get_or-set_other nexts k j (get_or heads s 0) 0 other) (linked.nexts_are j (omega arith) inside)
    ];
  }
    where
      first_next : IsFirstOrEnd (λ j. end_of (edge_at edges j) ≡ end_of (edge_at edges k)) (k + 1)
          (length edges) (get_or heads s 0)
      first_next =
          let P : ℕ → Type 0 =
          λ t. IsFirstOrEnd (λ j. end_of (edge_at edges j) ≡ t) (k + 1) (length edges) (get_or heads s 0) in
          subst P is (linked.heads_are s below)

  -- ---- the first place of any state, also of one that isn't there
  pub head_is : (heads nexts : List ℕ) (s last : ℕ) → AreLinked end_of states edges 0 heads nexts → last ≡ length edges
      → All (λ a. end_of a < states) edges
      → IsFirstOrEnd (λ j. end_of (edge_at edges j) ≡ s) 0 (length edges) (get_or heads s last)
  head_is heads nexts s last linked is within = elim (cases_lt s states) [
    | inl below ↦ rw (get_or_default heads s last 0 (omega (arith, linked.heads_count))) (linked.heads_are s below)
    | inr past ↦ rw (get_or_past heads s last (omega (arith, linked.heads_count)), is) (record {
      from = omega arith;
      up_to = omega arith;
      holds = λ below. absurd (omega arith);
      none_before = λ j from before at. absurd (omega (arith, within j no_edge before));
    })
  ]
