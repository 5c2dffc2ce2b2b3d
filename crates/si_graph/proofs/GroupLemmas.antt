-- Arcs gathered in groups by their sources.
use Rattle.std.proofs.Common.{◌≡◌, ℕ, ◌<◌, ◌≤◌, ◌+◌, sym, subst, ◌∙◌, ap, List, [], ◌∷◌, ◌++◌, length, get_or, All}
use Rattle.std.proofs.Common.{Contains, Ordering, Less, Equal, Greater, true, refl, arith, inl, inr}
use Rattle.std.specs.List.{AllAdjacentBelow, dedup}
use Rattle.std.specs.Ordering.{is_lt}
use Rattle.std.specs.List.Sorted.{IsPermutation, IsStrictlySortedBy}
use Rattle.std.proofs.lemmas.Bool.{cases_lt, cases_order}
use Rattle.std.proofs.lemmas.List.{get_or_default}
use Rattle.std.proofs.lemmas.List.Elements.{All-contains, Contains-get_or, Contains-push, Contains-push_cases}
use Rattle.std.proofs.lemmas.List.Elements.{Contains-append_left, Contains-append_right, Contains-append_cases}
use Rattle.std.proofs.lemmas.Map.Keys.{sorted_from_all_adjacent}
use Rattle.std.proofs.lemmas.List.Kept.{Contains-dedup, Contains-from_dedup}
use Rattle.std.proofs.lemmas.List.Sorted.{Contains-permutation, IsPermutation-sym}
use Rattle.si_base.specs.declared.graph.Edge.{Edge}
use Rattle.si_base.specs.EdgeOrder.{edge_cmp}
use Rattle.si_base.proofs.GivenGraphUnique.{same_edges, edges_total}
use Rattle.si_graph.specs.Loops.Arcs.{edge_at, no_edge}
use Rattle.si_graph.specs.Loops.Chains.{IsFirstOrEnd}
use Rattle.si_graph.specs.Loops.Ends.{source}
use Rattle.si_graph.specs.Loops.Groups.{IsGroup, AreGroups, AreOrdered, HaveSameArcs}
use Rattle.si_graph.proofs.ArcFacts.{edge_eq, edge_eq_equiv, edge_eq-true}
use Rattle.si_graph.proofs.ArcsInOrder.{arcs_in_order}
use Rattle.si_graph.proofs.ListMembers.{Contains-nil}

-- ---- one group
-- the arcs out of s that stand before k are gathered, and no others; one stands at k, unless k is
-- the end
pub record AreGathered (arcs : List Edge) (s k : ℕ) (group : List Edge) : Type 0 where
  pub up_to : k ≤ length arcs
  pub stands : k < length arcs → source (edge_at arcs k) ≡ s
  pub sound : (a : Edge) → Contains group a → Contains arcs a × (a.from ≡ s)
  pub passed : (j : ℕ) → j < k → source (edge_at arcs j) ≡ s → Contains group (edge_at arcs j)

module _ (arcs : List Edge) (s k : ℕ) where
  pub gathered_none : IsFirstOrEnd (λ j. source (edge_at arcs j) ≡ s) 0 (length arcs) k → AreGathered arcs s k []
  gathered_none first = record {
    up_to = first.up_to;
    stands = first.holds;
    sound = λ a there. absurd (Contains-nil a there);
    passed = λ j before out. absurd (first.none_before j (omega arith) before out);
  }

  module _ (group : List Edge) (old : AreGathered arcs s k group) where
    pub gathered_more : (next : ℕ) → k < length arcs
        → IsFirstOrEnd (λ j. source (edge_at arcs j) ≡ source (edge_at arcs k)) (k + 1) (length arcs) next
        → AreGathered arcs s next (group ++ edge_at arcs k ∷ [])
    gathered_more next within first =
        let here : source (edge_at arcs k) ≡ s = old.stands within in
        record {
          up_to = first.up_to;
          stands = λ below. first.holds below ∙ here;
          sound = λ a there. elim (Contains-push_cases group (edge_at arcs k) a there) [
            | inl before ↦ old.sound a before
            | inr same ↦ subst (λ (x : Edge). Contains arcs x × (x.from ≡ s)) same
                (Contains-get_or arcs k no_edge within, here)
          ];
          passed = λ j before out. elim (cases_order j k) [
            | inl same ↦ subst (λ (n : ℕ). Contains (group ++ edge_at arcs k ∷ []) (edge_at arcs n)) (sym same)
                (Contains-push group (edge_at arcs k))
            | inr (inl less) ↦ Contains-append_left group (edge_at arcs k ∷ []) (edge_at arcs j) (old.passed j less out)
            | inr (inr more) ↦ absurd (first.none_before j (omega arith) before (out ∙ sym here))
          ];
        }

    pub gathered_all : length arcs ≤ k → IsGroup arcs s group
    gathered_all past a = (
      old.sound a,
      λ out.
          let place = out.0 in
          let at : edge_at arcs place.0 ≡ a = get_or_default arcs place.0 no_edge a place.1 ∙ place.2 in
          let from : source (edge_at arcs place.0) ≡ s = ap source at ∙ out.1 in
          subst (λ (x : Edge). Contains group x) at (old.passed place.0 (omega (arith, place.1)) from),
    )

pub group_in_order : (arcs : List Edge) (s : ℕ) (group ordered : List Edge) → IsPermutation group ordered
    → IsGroup arcs s group → IsGroup arcs s ordered
group_in_order arcs s group ordered moved is a = (
  λ there. (is a).0 (Contains-permutation ordered group a (IsPermutation-sym group ordered moved) there),
  λ out. Contains-permutation group ordered a moved ((is a).1 out),
)

-- ---- all groups
pub groups_more : (arcs : List Edge) (n : ℕ) (groups group : List Edge) → AreGroups arcs n groups → IsGroup arcs n group
    → AreGroups arcs (n + 1) (groups ++ group)
groups_more arcs n groups group before is a = (
  λ there. elim (Contains-append_cases groups group a there) [
    | inl old ↦ let out = (before a).0 old in (out.0, omega (arith, out.1))
    | inr new ↦ let out = (is a).0 new in (out.0, omega (arith, out.1))
  ],
  λ out. elim (cases_lt a.from n) [
    | inl less ↦ Contains-append_left groups group a ((before a).1 (out.0, less))
    | inr past ↦ Contains-append_right groups group a ((is a).1 (out.0, omega (arith, out.1)))
  ],
)

pub groups_all : (arcs : List Edge) (n : ℕ) (groups : List Edge) → All (λ (a : Edge). a.from < n) arcs
    → AreGroups arcs n groups → HaveSameArcs groups arcs
groups_all arcs n groups within are a = (
  λ there. ((are a).0 there).0,
  λ there. (are a).1 (there, All-contains (λ (x : Edge). x.from < n) arcs a within there),
)

-- ---- lists with the same arcs
pub all_in_order : (P : Edge → Type 0) (xs ys : List Edge) → HaveSameArcs ys xs → All P xs → All P ys
all_in_order P xs ys same all k d within =
    All-contains P xs (get_or ys k d) all ((same (get_or ys k d)).0 (Contains-get_or ys k d within))

-- a list with the same arcs, sorted and each arc once, is the arcs in order
module _ (xs gathered sorted : List Edge) (same : HaveSameArcs gathered xs)
    (moved : IsPermutation gathered sorted) where
  same_once : HaveSameArcs (dedup edge_eq sorted) xs
  same_once a = (
    λ there. (same a).0 (Contains-permutation sorted gathered a (IsPermutation-sym gathered sorted moved)
        (Contains-from_dedup edge_eq sorted a there)),
    λ there. Contains-dedup edge_eq_equiv edge_eq-true sorted a
        (Contains-permutation gathered sorted a moved ((same a).1 there)),
  )

  pub once_in_order : IsStrictlySortedBy edge_cmp (dedup edge_eq sorted) → AreOrdered xs (dedup edge_eq sorted)
  once_in_order rising =
      let ordered = arcs_in_order xs in
      let is = ordered.1 in
      let equal : dedup edge_eq sorted ≡ ordered.0 = same_edges (dedup edge_eq sorted) ordered.0 rising is.sorted
      (λ a there. (is.same a).1 ((same_once a).0 there)) (λ a there. (same_once a).1 ((is.same a).0 there)) in
      record { sorted = rising; same = same_once; no_longer = omega (arith, ap length equal, is.no_longer) }

-- ---- arcs that are in order already
is_less : (o : Ordering) → true ≡ is_lt o → o ≡ Less
is_less Less h = refl
is_less Equal h = cc
is_less Greater h = cc

pub ordered_already : (arcs : List Edge)
    → AllAdjacentBelow (λ (x y : Edge). true ≡ is_lt (edge_cmp x y)) arcs (length arcs) → AreOrdered arcs arcs
ordered_already arcs rise = record {
  sorted = sorted_from_all_adjacent edges_total arcs no_edge
      (λ k below. is_less _ (rise k no_edge below));
  same = λ a. (λ there. there, λ there. there);
  no_longer = omega arith;
}
