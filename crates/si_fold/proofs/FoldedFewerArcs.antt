-- A folded graph is no larger than its graph.
use Rattle.std.proofs.Common.{◌≡◌, ℕ, ◌<◌, ◌≤◌, List, [], ◌∷◌, length, All, Contains, Ordering, sym, ◌∙◌, arith}
use Rattle.std.specs.List.{range_with_len}
use Rattle.std.specs.List.Sorted.{IsStrictlySortedBy}
use Rattle.std.specs.Ordering.{nat_cmp}
use Rattle.std.proofs.lemmas.List.Elements.{All-contains}
use Rattle.std.proofs.lemmas.List.FromFn.{length-range_with_len}
use Rattle.si_base.specs.declared.graph.Edge.{Edge}
use Rattle.si_base.specs.Codes.{CodedGraph, IsCoded}
use Rattle.si_base.specs.EdgeOrder.{edge_cmp}
use Rattle.si_base.specs.Graph.{arc}
use Rattle.si_base.proofs.ListLemmas.{Once, at_most, at_most_related, in_range}
use Rattle.si_base.proofs.OrderAscending.{IsStrict, after_head, nat_less}
use Rattle.si_base.proofs.GivenGraphUnique.{in_from_contains, contains_from_in, strict_from_total, edges_total}
use Rattle.si_graph.specs.Loops.Renaming.{renamed}
use Rattle.si_fold.specs.Folded.{IsFolded}
use Rattle.si_fold.specs.Laws.{IsNoLarger}
use Rattle.si_fold.proofs.FoldedGraph.{kept_within}

-- in a sorted list each element stands once
pub sorted_once : {K : Type 0} (c : K → K → Ordering) → IsStrict c → (xs : List K) → IsStrictlySortedBy c xs → Once xs
unfolding IsStrictlySortedBy
sorted_once c o [] sorted = tt
sorted_once c o (x ∷ xs) sorted =
    ((λ there. o.irreflexive x (after_head c x xs sorted.0 x there)), sorted_once c o xs sorted.1)

pub nats_strict : IsStrict nat_cmp
nats_strict = record {
  irreflexive = λ x less. (let own = nat_less x x less in omega (arith, own));
  asymmetric = λ x y less more. (
      let one = nat_less x y less in
      let other = nat_less y x more in
      omega (arith, one, other));
}

-- ascending numbers below n are no more than n
pub fewer_numbers : (xs : List ℕ) (n : ℕ) → IsStrictlySortedBy nat_cmp xs → All (λ x. x < n) xs → length xs ≤ n
fewer_numbers xs n sorted below =
    let few = at_most xs (range_with_len 0 n) (sorted_once nat_cmp nats_strict xs sorted)
    (λ a there. (
    let small : a < n = All-contains (λ x. x < n) xs a below (contains_from_in xs a there) in
    in_range 0 n a (omega arith) (omega (arith, small)))) in
    omega (arith, few, length-range_with_len 0 n)

-- arcs in order, each of which comes of an arc of its own, are no more than those
pub fewer_arcs : (xs ys : List Edge) → IsStrictlySortedBy edge_cmp xs → (Comes : Edge → Edge → Type 0)
    → ((a : Edge) → Contains xs a → (b : Edge) × Contains ys b × Comes a b)
    → ((a a2 b : Edge) → Comes a b → Comes a2 b → a ≡ a2) → length xs ≤ length ys
fewer_arcs xs ys sorted Comes own one =
    at_most_related Comes xs ys (sorted_once edge_cmp (strict_from_total edge_cmp edges_total) xs sorted)
    (λ a there. (
    let b = own a (contains_from_in xs a there) in
    (b.0, in_from_contains ys b.0 b.1.0 b.1.1 b.1.2, b.2))) one

pub folded_no_larger : (c d : CodedGraph) (kept class : List ℕ) → IsCoded c → IsFolded c kept class d → IsNoLarger c d
folded_no_larger c d kept class is f =
    let states = fewer_numbers kept c.graph.states f.classes.in_order (kept_within c kept class f.classes) in
    record {
      states = omega (arith, states, f.count);
      arcs = fewer_arcs d.graph.edges c.graph.edges f.graph.ordered (λ a b. a ≡ renamed class b)
          (λ a there. (
          let leads = (f.arcs a.from a.event a.to).0 there in
          let from = leads.source_in in
          let to = leads.target_in in (
            arc leads.source a.event leads.target,
            leads.step,
            (λ i. record { from = sym from i; event = a.event; to = sym to i }),
          )))
          (λ a a2 b one other. one ∙ sym other);
    }
