-- The first arc of a list in order is the first by its place.
use Rattle.std.proofs.Common.{◌≡◌, ℕ, ◌+◌, ◌*◌, ◌<◌, ◌⊎◌, ◌==◌, Bool, true, false, List, length, get_or}
use Rattle.std.proofs.Common.{Contains, refl, sym, ap, subst, ◌∙◌, arith, inl, inr, Less, Greater, nat_lt, le-ltb}
use Rattle.std.proofs.Common.{eq-eqb, ne_eqb, if◌then◌else◌}
use Rattle.std.proofs.lemmas.Bool.{cases_order, cases_lt}
use Rattle.std.proofs.lemmas.List.{get_or_default}
use Rattle.si_base.specs.declared.ids.Event.{Event}
use Rattle.si_base.specs.declared.graph.Edge.{Edge}
use Rattle.si_base.specs.EdgeOrder.{edge_cmp}
use Rattle.std.specs.List.Sorted.{IsStrictlySortedBy}
use Rattle.si_base.specs.Order.{Before, IsFirst}
use Rattle.si_base.specs.Graph.{StateGraph, event_place, IsGraph}
use Rattle.si_base.proofs.OrderAscending.{sorted_at, nat_same, bool_same}
use Rattle.si_base.proofs.OrderLemmas.{before_itself}
use Rattle.si_graph.proofs.OrderLemmas.{event_from_place}
use Rattle.si_insert.specs.Partition.{edge_place}
use Rattle.si_insert.proofs.InsertionLimits.{not_less_from, not_less_sig}

-- two events in event order
place_cases : (e f : Event) → event_place e < event_place f
    → (e.sig < f.sig) ⊎ ((e.sig ≡ f.sig) × (e.up ≡ true) × (f.up ≡ false))
place_cases e f less = by_direction e.up f.up refl refl less
  where
    by_direction : (a b : Bool) → e.up ≡ a → f.up ≡ b → 2 * e.sig + (if a then 0 else 1) < 2 *
        f.sig + (if b then 0 else 1) → (e.sig < f.sig) ⊎ ((e.sig ≡ f.sig) × (e.up ≡ true) × (f.up ≡ false))
    by_direction true true p q h = inl (omega (arith, h))
    by_direction false false p q h = inl (omega (arith, h))
    by_direction false true p q h = inl (omega (arith, h))
    by_direction true false p q h = elim (cases_lt e.sig f.sig) [
      | inl small ↦ inl small
      | inr large ↦ inr (omega (arith, h, large), p, q)
    ]

not_less_up : (a b : Edge) → a.from ≡ b.from → b.event.sig ≡ a.event.sig → b.event.up ≡ true → a.event.up ≡ false
    → edge_cmp a b ≡ Less → ⊥
not_less_up a b same also up down less =
    let low : nat_lt a.from b.from ≡ false = le-ltb a.from b.from (omega arith) in
    let equal : (a.from == b.from) ≡ true = eq-eqb a.from b.from same in
    let low_sig : nat_lt a.event.sig b.event.sig ≡ false = le-ltb a.event.sig b.event.sig (omega arith) in
    let equal_sig : (a.event.sig == b.event.sig) ≡ true = eq-eqb a.event.sig b.event.sig (sym also) in
    let e : Greater ≡ Less = rw (low, equal, low_sig, equal_sig, up, down) at less in cc

not_less_to : (a b : Edge) → a.from ≡ b.from → a.event ≡ b.event → b.to < a.to → edge_cmp a b ≡ Less → ⊥
not_less_to a b same event after less =
    let low : nat_lt a.from b.from ≡ false = le-ltb a.from b.from (omega arith) in
    let equal : (a.from == b.from) ≡ true = eq-eqb a.from b.from same in
    let up : a.event.up ≡ b.event.up = ap (λ (f : Event). f.up) event in
    let sig : a.event.sig ≡ b.event.sig = ap (λ (f : Event). f.sig) event in
    let low_to : nat_lt a.to b.to ≡ false = le-ltb a.to b.to (omega arith) in
    let other_to : (a.to == b.to) ≡ false = ne_eqb a.to b.to (λ same. omega arith) in
    let e : Greater ≡ Less =
    rw (low, equal, sig, nat_same b.event.sig, up, bool_same b.event.up, low_to, other_to) at less in cc

-- what stands before by its place doesn't come after in the list
pub not_after : (a b : Edge) → Before (edge_place b) (edge_place a) → edge_cmp a b ≡ Less → ⊥
not_after a b (inl from) less = not_less_from a b from less
not_after a b (inr (same, inl event)) less = elim (place_cases b.event a.event event) [
  | inl sig ↦ not_less_sig a b (sym same) sig less
  | inr r ↦ not_less_up a b (sym same) r.0 r.1 r.2 less
]
not_after a b (inr (same, inr (event, inl to))) less =
    not_less_to a b (sym same) (sym (event_from_place b.event a.event event)) to less
not_after a b (inr (same, inr (event, inr (to, never)))) less = absurd never

-- an item of an ordered list that has P, where no item before it in the list has P, is the first
pub first_of_list : (items : List Edge) (P : Edge → Type 0) (k : ℕ) (a : Edge) → IsStrictlySortedBy edge_cmp items
    → k < length items → get_or items k a ≡ a → P a → ((b : Edge) → P b → Contains items b)
    → ((j : ℕ) (d : Edge) → j < k → P (get_or items j d) → ⊥) → IsFirst edge_place P a
first_of_list items P k a ordered within at holds member none = record {
  holds = holds;
  none_before = λ b has before. (let c = member b has in
      elim (cases_order c.0 k) [
        | inr (inl earlier) ↦ none c.0 b earlier (subst P (sym c.2) has)
        | inl same ↦
            (let Q : ℕ → Type 0 = λ j. get_or items j b ≡ b in
            let at_b : get_or items k b ≡ b = subst Q same c.2 in
            let same_arc : a ≡ b = sym at ∙ get_or_default items k a b within ∙ at_b in
            let R : Edge → Type 0 = λ d. Before (edge_place d) (edge_place a) in
            before_itself (edge_place a) (subst R (sym same_arc) before))
        | inr (inr later) ↦
            (let less = sorted_at edge_cmp items ordered k c.0 b later c.1 in
            let at_a : get_or items k b ≡ a = get_or_default items k b a within ∙ at in
            not_after a b before (rw (at_a, c.2) at less))
      ]);
}

-- the same for the item at which a loop over the list stands
pub first_item : (items : List Edge) (P : Edge → Type 0) (k : ℕ) (a r : Edge) → IsStrictlySortedBy edge_cmp items
    → k < length items → r ≡ get_or items k r → a ≡ r → (Contains items a → P a) → ((b : Edge) → P b → Contains items b)
    → ((j : ℕ) (d : Edge) → j < k → P (get_or items j d) → ⊥) → IsFirst edge_place P a
first_item items P k a r ordered within item view holds member none =
    let at : get_or items k a ≡ a = get_or_default items k a r within ∙ sym item ∙ sym view in
    first_of_list items P k a ordered within at (holds (k, within, at)) member none

-- and for a loop over all arcs of a graph
pub first_found : (g : StateGraph) (items : List Edge) (P : Edge → Type 0) (k : ℕ) (a r : Edge) → IsGraph g
    → items ≡ g.edges → k < length items → r ≡ get_or items k r → a ≡ r → (Contains g.edges a → P a)
    → ((b : Edge) → P b → Contains g.edges b)
    → ((j : ℕ) (d : Edge) → j < k → P (get_or items j d) → ⊥) → IsFirst edge_place P a
first_found g items P k a r graph arcs within item view holds member none =
    let O : List Edge → Type 0 = λ xs. IsStrictlySortedBy edge_cmp xs in
    let Q : List Edge → Type 0 = λ xs. Contains xs a in
    first_item items P k a r (subst O (sym arcs) graph.ordered) within item view (λ there. holds (subst Q arcs there))
    (λ b has. (let R : List Edge → Type 0 = λ xs. Contains xs b in subst R (sym arcs) (member b has))) none
