-- Event order by places, and the arcs out of a state in that order.
use Rattle.std.proofs.Common.{◌≡◌, ℕ, ◌+◌, ◌*◌, ◌<◌, ◌≤◌, ◌⊎◌, Bool, true, false, if◌then◌else◌, List, length, get_or}
use Rattle.std.proofs.Common.{Contains, refl, sym, ap, subst, ◌∙◌, arith, inl, inr}
use Rattle.std.specs.Cmp.{nat_cmp_is}
use Rattle.std.specs.Ordering.{nat_cmp, bool_cmp, ordering_then, is_le}
use Rattle.std.specs.declared.cmp.Ordering.TheVariants.{Less, Equal, Greater}
use Rattle.std.proofs.lemmas.Bool.{cases_eq, cases_lt, cases_order, true≢false}
use Rattle.std.proofs.lemmas.List.{get_or_default}
use Rattle.si_base.specs.declared.ids.Event.{Event}
use Rattle.si_base.specs.declared.graph.Edge.{Edge}
use Rattle.si_base.specs.EdgeOrder.{event_cmp, edge_cmp}
use Rattle.si_base.specs.Graph.{StateGraph, Step, arc, event_place}
use Rattle.si_base.proofs.StepCodes.{step_within}
use Rattle.si_base.proofs.OrderAscending.{sorted_at}
use Rattle.si_graph.specs.Loops.Arcs.{AreOut}
use Rattle.si_graph.proofs.OrderLemmas.{place_le}

small : (b : Bool) → (if b then 0 else 1) ≤ 1
small true = omega arith
small false = omega arith

by_parts : (m n : ℕ) (a b : Bool) → (m ≡ n) ⊎ ((m < n) ⊎ (n < m))
    → ordering_then (nat_cmp m n) (bool_cmp b a) ≡ nat_cmp (2 * m + (if a then 0 else 1)) (2 * n + (if b then 0 else 1))
by_parts m n true true (inl same) =
    rw (← nat_cmp_is m n Equal same) (nat_cmp_is (2 * m + 0) (2 * n + 0) Equal (ap (λ x. 2 * x + 0) same))
by_parts m n true false (inl same) =
    rw (← nat_cmp_is m n Equal same) (nat_cmp_is (2 * m + 0) (2 * n + 1) Less (omega arith))
by_parts m n false true (inl same) =
    rw (← nat_cmp_is m n Equal same) (nat_cmp_is (2 * m + 1) (2 * n + 0) Greater (omega arith))
by_parts m n false false (inl same) =
    rw (← nat_cmp_is m n Equal same) (nat_cmp_is (2 * m + 1) (2 * n + 1) Equal (ap (λ x. 2 * x + 1) same))
by_parts m n a b (inr (inl less)) =
    let one = small a in
    rw (← nat_cmp_is m n Less less)
    (nat_cmp_is (2 * m + (if a then 0 else 1)) (2 * n + (if b then 0 else 1)) Less (omega arith))
by_parts m n a b (inr (inr more)) =
    let one = small b in
    rw (← nat_cmp_is m n Greater more)
    (nat_cmp_is (2 * m + (if a then 0 else 1)) (2 * n + (if b then 0 else 1)) Greater (omega arith))

pub event_order : (e f : Event) → event_cmp e f ≡ nat_cmp (event_place e) (event_place f)
event_order e f = by_parts e.sig f.sig e.up f.up (cases_order e.sig f.sig)

pub later_event : (e f : Event) → false ≡ is_le (event_cmp e f) → event_place f < event_place e
later_event e f not_le = elim (cases_order (event_place e) (event_place f)) [
  | inl same ↦ absurd (true≢false
      (sym (not_le ∙ ap is_le (event_order e f ∙ sym (nat_cmp_is (event_place e) (event_place f) Equal same)))))
  | inr (inl less) ↦ absurd (true≢false
      (sym (not_le ∙ ap is_le (event_order e f ∙ sym (nat_cmp_is (event_place e) (event_place f) Less less)))))
  | inr (inr more) ↦ more
]

-- no breach with P has the event of one of the first n arcs
abbrev pub NoneWithin : {A : Type 0} → List Edge → (A → Type 0) → (A → Event) → ℕ → Type 0
NoneWithin arcs P event n = (k : ℕ) (d : Edge) → k < n → (b : _) → P b → event b ≡ (get_or arcs k d).event → ⊥

module _ (g : StateGraph) (s : ℕ) (arcs : List Edge) (out : AreOut g s arcs) where
  -- a step from s is one of the arcs
  pub out_place : (e : Event) (t : ℕ) → Step g s e t → Contains arcs (arc s e t)
  out_place e t step = (out.exactly (arc s e t)).1 (step, refl)

  -- an arc at a place is a step from s
  pub out_from : (k : ℕ) (d : Edge) → k < length arcs → (get_or arcs k d).from ≡ s
  out_from k d within =
      let a = get_or arcs k d in
      ((out.exactly a).0 (k, within, get_or_default arcs k a d within)).1

  -- what a loop reads at a place is a step from s
  pub out_item : (n : ℕ) (a : Edge) → n < length arcs → a ≡ get_or arcs n a → Step g s a.event a.to
  out_item n a within at =
      let both = (out.exactly a).0 (n, within, sym at) in
      let P : ℕ → Type 0 = λ x. Step g x a.event a.to in
      subst P both.1 both.0

  pub out_arc : (n : ℕ) (a : Edge) → n < length arcs → a ≡ get_or arcs n a → Contains g.edges a
  out_arc n a within at = ((out.exactly a).0 (n, within, sym at)).0

  pub out_source : (n : ℕ) (a : Edge) → n < length arcs → a ≡ get_or arcs n a → a.from ≡ s
  out_source n a within at = ((out.exactly a).0 (n, within, sym at)).1

  pub out_signal : (n : ℕ) (a : Edge) → n < length arcs → a ≡ get_or arcs n a → a.event.sig < length g.signals
  out_signal n a within at = (step_within g s a.event a.to out.graph (out_item n a within at)).1

  pub out_rises : (i j : ℕ) (d : Edge) → i < j → j < length arcs
      → event_place (get_or arcs i d).event ≤ event_place (get_or arcs j d).event
  out_rises i j d before within =
      place_le (get_or arcs i d) (get_or arcs j d) (sorted_at edge_cmp arcs out.ordered i j d before within)
      (out_from i d (omega arith) ∙ sym (out_from j d within))

  -- breaches at s, each with an event by which s leads somewhere
  module _ {A : Type 0} (P : A → Type 0) (event : A → Event)
      (steps : (b : A) → P b → (t : ℕ) × Step g s (event b) t) where
    at_place : (b : A) (is : P b) (k : ℕ) (t : ℕ) → get_or arcs k (arc s (event b) t) ≡ arc s (event b) t
        → event b ≡ (get_or arcs k (arc s (event b) t)).event
    at_place b is k t at = sym (ap (λ (a : Edge). a.event) at)

    pub none_at_all : (n : ℕ) → length arcs ≤ n → NoneWithin arcs P event n → (b : A) → P b → ⊥
    none_at_all n all none b is =
        let to = steps b is in
        let there = out_place (event b) to.0 to.1 in
        none there.0 (arc s (event b) to.0) (omega (arith, there.1)) b is (at_place b is there.0 to.0 there.2)

    -- nor the event of the next
    pub one_more : (n : ℕ) (a : Edge) → n < length arcs → a ≡ get_or arcs n a → NoneWithin arcs P event n
        → ((b : A) → P b → event b ≡ a.event → ⊥) → NoneWithin arcs P event (n + 1)
    one_more n a within at none here k d below b is same = elim (cases_eq k n) [
      | inl equal ↦ here b is (same ∙ ap (λ x. (get_or arcs x d).event) equal
          ∙ ap (λ (x : Edge). x.event) (get_or_default arcs n d a within ∙ sym at))
      | inr other ↦ none k d (omega arith) b is same
    ]

    pub none_before : (n : ℕ) (d : Edge) → n < length arcs → d ≡ get_or arcs n d → NoneWithin arcs P event n → (b : A)
        → P b → event_place (event b) < event_place d.event → ⊥
    none_before n d within at none b is earlier =
        let before : event_place (event b) < event_place (get_or arcs n d).event =
        omega (arith, ap (λ (x : Edge). event_place x.event) at) in
        let to = steps b is in
        let there = out_place (event b) to.0 to.1 in
        let k = there.0 in
        let a = arc s (event b) to.0 in
        let same : event b ≡ (get_or arcs k a).event = at_place b is k to.0 there.2 in
        let also : event b ≡ (get_or arcs k d).event =
        same ∙ ap (λ (x : Edge). x.event) (get_or_default arcs k a d there.1) in
        elim (cases_lt k n) [
          | inl less ↦ none k a less b is same
          | inr above ↦ elim (cases_eq k n) [
            | inl equal ↦
                absurd (omega (arith, ap event_place also, ap (λ x. event_place (get_or arcs x d).event) equal))
            | inr other ↦ absurd (omega (arith, ap event_place also, out_rises n k d (omega arith) there.1))
          ]
        ]
