-- A text spells one graph.
use Rattle.std.proofs.Common.{◌≡◌, ℕ, zero, suc, ◌<◌, List, [], ◌∷◌, length, get_or, slice_get, Contains, Some, sym, ap}
use Rattle.std.proofs.Common.{ap₂, subst, ◌∙◌, arith, inl, inr, Ordering, Less, nat_cmp}
use Rattle.std.proofs.lemmas.Bool.{cases_order}
use Rattle.std.proofs.lemmas.Option.{get_or_from_slice_get, slice_get_within}
use Rattle.std.specs.List.Sorted.{IsStrictlySortedBy}
use Rattle.std.specs.Cmp.{IsTotalOrder, nat_cmp_total}
use Rattle.std.specs.Cmp.Rules.{comparing}
use Rattle.std.specs.Ordering.{ordering_reverse}
use Rattle.std.proofs.Common.{rules}
use Rattle.si_base.specs.declared.graph.Edge.{Edge}
use Rattle.si_base.specs.declared.graph.Signal.{Signal}
use Rattle.si_base.specs.EdgeOrder.{edge_cmp}
use Rattle.si_base.specs.Graph.{StateGraph, IsCut}
use Rattle.si_base.proofs.OrderAscending.{In, IsStrict, same_elements, sorted_at}

pub in_from_contains : {K : Type 0} (xs : List K) (a : K) (k : ℕ) → k < length xs → get_or xs k a ≡ a → In a xs
in_from_contains [] a k within at = absurd (omega arith)
in_from_contains (x ∷ xs) a zero within at = inl (sym at)
in_from_contains (x ∷ xs) a (suc k) within at = inr (in_from_contains xs a k (omega arith) at)

pub contains_from_in : {K : Type 0} (xs : List K) (a : K) → In a xs → Contains xs a
contains_from_in [] a there = absurd there
contains_from_in (x ∷ xs) a (inl same) = (0, omega arith, sym same)
contains_from_in (x ∷ xs) a (inr later) = let r = contains_from_in xs a later in (suc r.0, omega arith, r.2)

-- an order that is total tells no element from itself, and never both ways
pub strict_from_total : {K : Type 0} (c : K → K → Ordering) → IsTotalOrder c → IsStrict c
strict_from_total c total = record {
  irreflexive = λ x less. reversed (c x x) (total.antisymm x x) less;
  asymmetric = λ x y less more. apart (c x y) (c y x) (total.antisymm x y) less more;
}
  where
    apart : (o p : Ordering) → o ≡ ordering_reverse p → o ≡ Less → p ≡ Less → ⊥
    apart o p same less more = let e : Less ≡ ordering_reverse Less = sym less ∙ same ∙ ap ordering_reverse more in cc

    reversed : (o : Ordering) → o ≡ ordering_reverse o → o ≡ Less → ⊥
    reversed o same less = let e : Less ≡ ordering_reverse Less = sym less ∙ same ∙ ap ordering_reverse less in cc

pub edges_total : IsTotalOrder edge_cmp
edges_total = search (comparing, rules) depth 9

-- two graphs with the same arcs have the same list of them
pub same_edges : (xs ys : List Edge) → IsStrictlySortedBy edge_cmp xs → IsStrictlySortedBy edge_cmp ys
    → ((a : Edge) → Contains xs a → Contains ys a) → ((a : Edge) → Contains ys a → Contains xs a) → xs ≡ ys
same_edges xs ys sx sy there back =
    same_elements edge_cmp (strict_from_total edge_cmp edges_total) xs ys sx sy
    (λ a here. let r = there a (contains_from_in xs a here) in in_from_contains ys a r.0 r.1 r.2)
    (λ a here. let r = back a (contains_from_in ys a here) in in_from_contains xs a r.0 r.1 r.2)

pub same_numbers : (xs ys : List ℕ) → IsStrictlySortedBy nat_cmp xs → IsStrictlySortedBy nat_cmp ys
    → ((a : ℕ) → Contains xs a → Contains ys a) → ((a : ℕ) → Contains ys a → Contains xs a) → xs ≡ ys
same_numbers xs ys sx sy there back =
    same_elements nat_cmp (strict_from_total nat_cmp nat_cmp_total) xs ys sx sy
    (λ a here. let r = there a (contains_from_in xs a here) in in_from_contains ys a r.0 r.1 r.2)
    (λ a here. let r = back a (contains_from_in ys a here) in in_from_contains xs a r.0 r.1 r.2)

pub same_graph : (g h : StateGraph) → g.signals ≡ h.signals → g.states ≡ h.states → g.edges ≡ h.edges
    → g.start ≡ h.start → g ≡ h
same_graph g h signals states edges start =
    let one : List Signal → ℕ → StateGraph =
    λ x n. record { signals = x; states = n; edges = g.edges; start = g.start } in
    let two : List Edge → ℕ → StateGraph =
    λ e s. record { signals = h.signals; states = h.states; edges = e; start = s } in
    ap₂ one signals states ∙ ap₂ two edges start

-- in a list that ascends strictly a number stands at one place
pub one_place : (xs : List ℕ) (i j a : ℕ) → IsStrictlySortedBy nat_cmp xs → slice_get xs i ≡ Some a
    → slice_get xs j ≡ Some a → i ≡ j
one_place xs i j a sorted here there =
    let strict = strict_from_total nat_cmp nat_cmp_total in
    let at_i = get_or_from_slice_get xs i a a here in
    let at_j = get_or_from_slice_get xs j a a there in
    elim (cases_order i j) [
      | inl same ↦ same
      | inr (inl before) ↦ absurd
          (strict.irreflexive a (rw (at_i, at_j) at
          (sorted_at nat_cmp xs sorted i j a before (slice_get_within xs j a there))))
      | inr (inr after) ↦ absurd
          (strict.irreflexive a (rw (at_j, at_i) at
          (sorted_at nat_cmp xs sorted j i a after (slice_get_within xs i a here))))
    ]

-- the arcs of a cut are those of another cut to the same states
pub cut_arcs : (g h k : StateGraph) (kept : List ℕ) → IsCut g kept h → IsCut g kept k → (a : Edge) → Contains h.edges a
    → Contains k.edges a
cut_arcs g h k kept is also a there =
    let P : Edge → Type 0 = λ b. (b.from < h.states) × (b.event.sig < length h.signals) × (b.to < h.states) in
    let range = subst P there.2 (is.graph.within there.0 a there.1) in
    let from : a.from < length kept = omega (arith, is.count) in
    let to : a.to < length kept = omega (arith, is.count) in
    (also.arcs a.from a.event a.to from to).1 ((is.arcs a.from a.event a.to from to).0 there)

pub cut_unique : (g h k : StateGraph) (kept also_kept : List ℕ) → IsCut g kept h → IsCut g also_kept k
    → (kept ≡ also_kept) × (h ≡ k)
cut_unique g h k kept also_kept is also =
    let same : kept ≡ also_kept = same_numbers kept also_kept is.in_order also.in_order
    (λ a here. (also.reachable a).1 ((is.reachable a).0 here))
    (λ a here. (is.reachable a).1 ((also.reachable a).0 here)) in
    let P : List ℕ → Type 0 = λ ks. IsCut g ks h in
    let moved : IsCut g also_kept h = subst P same is in (
      same,
      same_graph h k (moved.signals_stay ∙ sym also.signals_stay) (moved.count ∙ sym also.count)
          (same_edges h.edges k.edges moved.graph.ordered also.graph.ordered (cut_arcs g h k also_kept moved also)
          (cut_arcs g k h also_kept also moved))
          (one_place also_kept h.start k.start g.start moved.in_order moved.start_kept also.start_kept),
    )
