-- There is one graph of handshakes for each number, and its sizes.
use Rattle.std.proofs.Common.{◌≡◌, ◌≢◌, ℕ, suc, ◌+◌, ◌*◌, ◌/◌, ◌%◌, ◌^◌, ◌<◌, ◌≤◌, List, [], ◌∷◌, length, AllPairs}
use Rattle.std.proofs.Common.{Contains, Ordering, sym, ap, ap₂, ◌∙◌, arith}
use Rattle.std.specs.List.Sorted.{IsStrictlySortedBy}
use Rattle.std.proofs.lemmas.Nat.{div-add-mod', mul-le}
use Rattle.std.proofs.lemmas.List.FromFn.{get_or-map-range_with_len}
use Rattle.si_base.specs.declared.graph.Edge.{Edge}
use Rattle.si_base.specs.EdgeOrder.{edge_cmp}
use Rattle.si_base.specs.Graph.{StateGraph}
use Rattle.si_base.specs.GivenGraph.{Sg}
use Rattle.si_base.proofs.OrderAscending.{IsStrict, after_head}
use Rattle.si_base.proofs.GivenGraphUnique.{in_from_contains, contains_from_in, strict_from_total, edges_total}
use Rattle.si_base.proofs.GivenGraphUnique.{same_edges, same_graph}
use Rattle.si_base.proofs.ListLemmas.{Once, at_most as no_more_than}
use Rattle.si_handshakes.specs.Handshakes.{phase, IsHandshakes, IsWithinLimits, max_handshakes}
use Rattle.si_handshakes.specs.Loops.Arcs.{arc_at}
use Rattle.si_handshakes.proofs.DigitLemmas.{phase_below, at_most}
use Rattle.si_handshakes.proofs.NamesNumbered.{twice_as_many}
use Rattle.si_handshakes.proofs.HandshakePhases.{same_handshake}
use Rattle.si_handshakes.proofs.ArcsMade.{made, length-made, made_steps, its_handshake}

-- ---- lists in which each element stands once
sorted_once : {K : Type 0} (c : K → K → Ordering) → IsStrict c → (xs : List K) → IsStrictlySortedBy c xs → Once xs
unfolding IsStrictlySortedBy
sorted_once c o [] sorted = tt
sorted_once c o (x ∷ xs) sorted =
    ((λ there. o.irreflexive x (after_head c x xs sorted.0 x there)), sorted_once c o xs sorted.1)

apart_once : (xs : List Edge) → AllPairs (λ x y. x ≢ y) xs → Once xs
apart_once [] apart = tt
apart_once (x ∷ xs) apart = (
  (λ there.
      let k = contains_from_in xs x there in
      apart 0 (suc k.0) x (omega arith) (omega (arith, k.1)) (sym k.2)),
  apart_once xs (λ i j d before within. apart (suc i) (suc j) d (omega arith) (omega arith)),
)

-- ---- no arc is made twice
same_arc : (n i j : ℕ) → i < n * 4 ^ n → j < n * 4 ^ n → arc_at n i ≡ arc_at n j → i ≡ j
same_arc n i j within also same =
    let states : i / n ≡ j / n = ap (λ (a : Edge). a.from) same in
    let handshakes : i % n ≡ j % n =
    same_handshake n (i % n) (j % n) (phase (i / n) (i % n)) (phase (j / n) (j % n)) (its_handshake n i within)
    (its_handshake n j also) (phase_below (i / n) (i % n)) (phase_below (j / n) (j % n))
    (ap (λ (a : Edge). a.event.sig) same) in
    sym (div-add-mod' i n) ∙ ap₂ (λ q r. q * n + r) states handshakes ∙ div-add-mod' j n

made_apart : (n : ℕ) → AllPairs (λ x y. x ≢ y) (made n (n * 4 ^ n))
made_apart n i j d before within same =
    let second : j < n * 4 ^ n = omega (arith, length-made n (n * 4 ^ n)) in
    let first : i < n * 4 ^ n = omega arith in
    let equal : i ≡ j = same_arc n i j first second
    (sym (get_or-map-range_with_len (arc_at n) 0 (n * 4 ^ n) i i d first (omega arith)) ∙ same
    ∙ get_or-map-range_with_len (arc_at n) 0 (n * 4 ^ n) j j d second (omega arith)) in
    omega arith

-- ---- the arcs of the graph are those that are made
module _ (n : ℕ) (sg : Sg) (is : IsHandshakes n sg) where
  is_made : (a : Edge) → Contains sg.graph.edges a → Contains (made n (n * 4 ^ n)) a
  is_made a there = (made_steps n a.from a.event a.to).1 ((is.steps a.from a.event a.to).0 there)

  is_there : (a : Edge) → Contains (made n (n * 4 ^ n)) a → Contains sg.graph.edges a
  is_there a there = (is.steps a.from a.event a.to).1 ((made_steps n a.from a.event a.to).0 there)

  pub so_many_arcs : length sg.graph.edges ≡ n * 4 ^ n
  so_many_arcs =
      let edges = sg.graph.edges in
      let all : List Edge = made n (n * 4 ^ n) in
      let not_more : length edges ≤ length all =
      no_more_than edges all
      (sorted_once edge_cmp (strict_from_total edge_cmp edges_total) edges is.graph.ordered)
      (λ a there. (let c = is_made a (contains_from_in edges a there) in in_from_contains all a c.0 c.1 c.2)) in
      let not_fewer : length all ≤ length edges =
      no_more_than all edges (apart_once all (made_apart n))
      (λ a there. (let c = is_there a (contains_from_in all a there) in in_from_contains edges a c.0 c.1 c.2)) in
      omega (arith, not_more, not_fewer, length-made n (n * 4 ^ n))

  pub within_limits : n ≤ max_handshakes → IsWithinLimits sg.graph
  within_limits few = record {
    signals = omega (arith, ap length is.signals, twice_as_many n);
    states = omega (arith, is.count, at_most n few);
    arcs = omega (arith, so_many_arcs, mul-le n (4 ^ n) 8 65536 few (at_most n few));
  }

-- ---- there is one graph
pub one_graph : (n : ℕ) (one other : Sg) → IsHandshakes n one → IsHandshakes n other → one ≡ other
one_graph n one other is also =
    let forth : (a : Edge) → Contains one.graph.edges a → Contains other.graph.edges a =
    λ a there. is_there n other also a (is_made n one is a there) in
    let back : (a : Edge) → Contains other.graph.edges a → Contains one.graph.edges a =
    λ a there. is_there n one is a (is_made n other also a there) in
    let edges : one.graph.edges ≡ other.graph.edges =
    same_edges one.graph.edges other.graph.edges is.graph.ordered also.graph.ordered forth back in
    let graphs : one.graph ≡ other.graph =
    same_graph one.graph other.graph (is.signals ∙ sym also.signals) (is.count ∙ sym also.count) edges
    (is.start ∙ sym also.start) in
    let model : List ℕ → Sg = λ m. record { model = m; graph = one.graph; states = one.states } in
    let rest : StateGraph → List (List ℕ) → Sg = λ g s. record { model = other.model; graph = g; states = s } in
    ap model (is.model ∙ sym also.model) ∙ ap₂ rest graphs (is.states ∙ sym also.states)
