-- The order of arcs.
use Rattle.std.proofs.Common.{◌≡◌, ℕ, ◌<◌, ◌≤◌, ◌+◌, Bool, true, false, refl, sym, ap, ap₂, ◌∙◌, List, [], ◌∷◌, zero}
use Rattle.std.proofs.Common.{suc, ◌*◌, if◌then◌else◌, IsTrue, length, get_or, take, drop, arith, subst, inl, inr, ◌⊎◌}
use Rattle.std.proofs.Common.{Contains}
use Rattle.std.specs.List.{AllByRecursion}
use Rattle.std.specs.Cmp.{IsTotalOrder, then_total, on_total, back_total, nat_cmp_total, bool_cmp_total}
use Rattle.std.specs.List.Sorted.{IsStrictlySortedBy, IsNonDecreasingBy, IsPartitionedBy, IsPartitionPoint}
use Rattle.std.specs.Ordering.{ordering_then, nat_cmp, bool_cmp, is_lt}
use Rattle.std.proofs.lemmas.Bool.{true≢false}
use Rattle.std.specs.declared.cmp.Ordering.{Ordering}
use Rattle.std.specs.declared.cmp.Ordering.TheVariants.{Less, Equal, Greater}
use Rattle.std.proofs.lemmas.Map.Keys.{Less-from_sorted}
use Rattle.std.proofs.lemmas.List.{get_or_default}
use Rattle.std.proofs.lemmas.Bool.{cases_order, cases_lt}
use Rattle.std.proofs.lemmas.Cmp.{tied_itself}
use Rattle.std.proofs.lemmas.Bool.Decides.{nat_tests}
use Rattle.si_base.specs.declared.ids.Event.{Event}
use Rattle.si_base.specs.declared.graph.Edge.{Edge}
use Rattle.si_base.specs.EdgeOrder.{event_cmp, edge_cmp}
use Rattle.si_base.specs.Graph.{StateGraph, Step, arc, enables, event_place}
use Rattle.si_base.specs.System.{IsLeastTarget}
use Rattle.si_base.proofs.GraphSteps.{step_from_enables}
use Rattle.si_base.proofs.OrderAscending.{nat_less, nat_same}
use Rattle.si_graph.specs.Loops.Arcs.{AreOut}

pub event_total : IsTotalOrder event_cmp
event_total = then_total (on_total (λ e. e.sig) nat_cmp_total) (back_total (on_total (λ e. e.up) bool_cmp_total))

pub then_Less : (o p : Ordering) → ordering_then o p ≡ Less → (o ≡ Less) ⊎ ((o ≡ Equal) × (p ≡ Less))
then_Less Less p h = inl refl
then_Less Equal p h = inr (refl, h)
then_Less Greater p h = cc

pub nat_Equal : (a b : ℕ) → nat_cmp a b ≡ Equal → a ≡ b
nat_Equal a b h = grind (arith, nat_tests)

-- an arc before another is from no later state
pub from_le : (x y : Edge) → edge_cmp x y ≡ Less → x.from ≤ y.from
from_le x y h = by (then_Less (nat_cmp x.from y.from) _ h)
  where
    by : {P : Type 0} → (nat_cmp x.from y.from ≡ Less) ⊎ ((nat_cmp x.from y.from ≡ Equal) × P) → x.from ≤ y.from
    by (inl less) = omega (arith, nat_less x.from y.from less)
    by (inr same) = omega (arith, nat_Equal x.from y.from same.0)

-- and, with the same source and event, leads to a lesser state
pub to_lt : (x y : Edge) → edge_cmp x y ≡ Less → x.from ≡ y.from → x.event ≡ y.event → x.to < y.to
to_lt x y h f e = nat_less _ _ (rw (f, nat_same y.from, e, tied_itself event_total y.event) at h)

pub in_order : (edges : List Edge) → IsStrictlySortedBy edge_cmp edges → (i j : ℕ) (d : Edge) → i < j → j < length edges
    → edge_cmp (get_or edges i d) (get_or edges j d) ≡ Less
in_order edges sorted i j d before within = Less-from_sorted edge_cmp edges i j d sorted before within

pub rising_from : (edges : List Edge) → IsStrictlySortedBy edge_cmp edges → IsNonDecreasingBy (λ e. e.from) edges
rising_from edges ordered i j d le within = elim (cases_order i j) [
  | inl same ↦ rw same (omega arith)
  | inr apart ↦ elim apart [
    | inl lt ↦ from_le (get_or edges i d) (get_or edges j d) (in_order edges ordered i j d lt within)
    | inr gt ↦ absurd (omega arith)
  ]
]

-- ---- parts of an ordered list are ordered
all_take : {A : Type 0} (P : A → Type 0) (n : ℕ) (xs : List A) → AllByRecursion P xs → AllByRecursion P (take n xs)
all_take P zero xs all = tt
all_take P (suc n) [] all = tt
all_take P (suc n) (x ∷ xs) all = (all.0, all_take P n xs all.1)

pub sorted_take : {A : Type 0} (c : A → A → Ordering) (n : ℕ) (xs : List A) → IsStrictlySortedBy c xs
    → IsStrictlySortedBy c (take n xs)
unfolding IsStrictlySortedBy
sorted_take c zero xs is = tt
sorted_take c (suc n) [] is = tt
sorted_take c (suc n) (x ∷ xs) is = (all_take _ n xs is.0, sorted_take c n xs is.1)

pub sorted_drop : {A : Type 0} (c : A → A → Ordering) (n : ℕ) (xs : List A) → IsStrictlySortedBy c xs
    → IsStrictlySortedBy c (drop n xs)
unfolding IsStrictlySortedBy
sorted_drop c zero xs is = is
sorted_drop c (suc n) [] is = tt
sorted_drop c (suc n) (x ∷ xs) is = sorted_drop c n xs is.1

-- ---- event order is the order of places
pub less_nat : (a b : ℕ) → a < b → nat_cmp a b ≡ Less
less_nat a b h = grind (arith, nat_tests)

less_from_places : (a b : ℕ) (u v : Bool) → 2 * a + (if u then 0 else 1) < 2 * b + (if v then 0 else 1)
    → ordering_then (nat_cmp a b) (bool_cmp v u) ≡ Less
less_from_places a b true true h = let e = less_nat a b (omega arith) in rw e refl
less_from_places a b false true h = let e = less_nat a b (omega arith) in rw e refl
less_from_places a b false false h = let e = less_nat a b (omega arith) in rw e refl
less_from_places a b true false h = elim (cases_lt a b) [
  | inl lt ↦ (let e = less_nat a b lt in rw e refl)
  | inr ge ↦ (let same : a ≡ b = omega arith in rw (same, nat_same b) refl)
]

places_from_less : (a b : ℕ) (u v : Bool) → (nat_cmp a b ≡ Less) ⊎ ((nat_cmp a b ≡ Equal) × (bool_cmp v u ≡ Less))
    → 2 * a + (if u then 0 else 1) < 2 * b + (if v then 0 else 1)
places_from_less a b true true (inl less) = omega (arith, nat_less a b less)
places_from_less a b false true (inl less) = omega (arith, nat_less a b less)
places_from_less a b true false (inl less) = omega (arith, nat_less a b less)
places_from_less a b false false (inl less) = omega (arith, nat_less a b less)
places_from_less a b true true (inr same) = cc
places_from_less a b false true (inr same) = cc
places_from_less a b true false (inr same) = omega (arith, nat_Equal a b same.0)
places_from_less a b false false (inr same) = cc

pub event_Less : (x y : Event) → event_place x < event_place y → event_cmp x y ≡ Less
event_Less x y h = less_from_places x.sig y.sig x.up y.up h

pub place_lt : (x y : Event) → event_cmp x y ≡ Less → event_place x < event_place y
place_lt x y h = places_from_less x.sig y.sig x.up y.up (then_Less _ _ h)

is_lt-true : (o : Ordering) → is_lt o ≡ true → o ≡ Less
is_lt-true Less h = refl
is_lt-true Equal h = cc
is_lt-true Greater h = cc

then_Equal : (o p : Ordering) → ordering_then o p ≡ Equal → (o ≡ Equal) × (p ≡ Equal)
then_Equal Less p h = cc
then_Equal Equal p h = (refl, h)
then_Equal Greater p h = cc

same_ups : (u v : Bool) → bool_cmp v u ≡ Equal → u ≡ v
same_ups true true h = refl
same_ups true false h = cc
same_ups false true h = cc
same_ups false false h = refl

pub event_Equal : (x y : Event) → event_cmp x y ≡ Equal → event_place x ≡ event_place y
event_Equal x y h =
    let parts = then_Equal _ _ h in
    let sigs = nat_Equal x.sig y.sig parts.0 in
    let ups = same_ups x.up y.up parts.1 in
    ap₂ (λ (a : ℕ) (u : Bool). 2 * a + (if u then 0 else 1)) sigs ups

pub same_parts : (a b : ℕ) (u v : Bool) → 2 * a + (if u then 0 else 1) ≡ 2 * b + (if v then 0 else 1)
    → (a ≡ b) × (u ≡ v)
same_parts a b true true h = (omega arith, refl)
same_parts a b false true h = absurd (omega arith)
same_parts a b true false h = absurd (omega arith)
same_parts a b false false h = (omega arith, refl)

-- two events of one place are one
pub event_from_place : (x y : Event) → event_place x ≡ event_place y → x ≡ y
event_from_place x y h =
    let parts = same_parts x.sig y.sig x.up y.up h in
    ap₂ (λ (a : ℕ) (u : Bool). let e : Event = record { sig = a; up = u } in e) parts.0 parts.1

-- of two arcs out of one state, the one before the other has no later event
pub place_le : (x y : Edge) → edge_cmp x y ≡ Less → x.from ≡ y.from → event_place x.event ≤ event_place y.event
place_le x y h same = by (then_Less (event_cmp x.event y.event) (nat_cmp x.to y.to) (rw (same, nat_same y.from) at h))
  where
    by : {P : Type 0} → (event_cmp x.event y.event ≡ Less) ⊎ ((event_cmp x.event y.event ≡ Equal) × P)
        → event_place x.event ≤ event_place y.event
    by (inl less) = omega (arith, place_lt x.event y.event less)
    by (inr tied) = omega (arith, event_Equal x.event y.event tied.0)

-- ---- the arcs of one state by their events
pub out_from : (g : StateGraph) (s : ℕ) (arcs : List Edge) (i : ℕ) (d : Edge) → AreOut g s arcs → i < length arcs
    → (get_or arcs i d).from ≡ s
out_from g s arcs i d out within =
    ((out.exactly (get_or arcs i d)).0 (i, within, get_or_default arcs i (get_or arcs i d) d within)).1

pub out_rising : (g : StateGraph) (s : ℕ) (arcs : List Edge) → AreOut g s arcs
    → IsNonDecreasingBy (λ a. event_place a.event) arcs
out_rising g s arcs out i j d le within = elim (cases_order i j) [
  | inl same ↦ rw same (omega arith)
  | inr (inl lt) ↦ place_le (get_or arcs i d) (get_or arcs j d) (in_order arcs out.ordered i j d lt within)
      (out_from g s arcs i d out (omega arith) ∙ sym (out_from g s arcs j d out within))
  | inr (inr gt) ↦ absurd (omega arith)
]

abbrev pub is_earlier : Event → Edge → Bool
is_earlier e a = is_lt (event_cmp a.event e)

earlier_place : (x y : Event) → is_lt (event_cmp x y) ≡ true → event_place x < event_place y
earlier_place x y h = place_lt x y (is_lt-true _ h)

pub event_cut : (g : StateGraph) (s : ℕ) (e : Event) (arcs : List Edge) → AreOut g s arcs
    → IsPartitionedBy (is_earlier e) arcs
event_cut g s e arcs out i j d le within earlier =
    let rises = out_rising g s arcs out i j d le within in
    let before = earlier_place (get_or arcs j d).event e earlier in
    rw (event_Less (get_or arcs i d).event e (omega (arith, rises, before))) refl

-- the arcs out of s by e begin at the cut
at_cut : (g : StateGraph) (s : ℕ) (e : Event) (t : ℕ) (arcs : List Edge) (k : ℕ) → AreOut g s arcs
    → IsPartitionPoint (λ a. is_earlier e a ≡ true) (λ a. is_earlier e a ≡ false) arcs k → Step g s e t
    → (j : ℕ) × (k ≤ j) × (j < length arcs) × (get_or arcs j (arc s e t) ≡ arc s e t)
at_cut g s e t arcs k out cut step =
    let here = (out.exactly (arc s e t)).1 (step, refl) in
    let from : k ≤ here.0 = elim (cases_lt here.0 k) [
      | inl lt ↦ (
          let itself = rw here.2 at (cut.0 here.0 (arc s e t) (omega arith) lt) in
          absurd (omega (arith, earlier_place e e itself)))
      | inr ge ↦ ge
    ] in
    (here.0, from, here.1, here.2)

same_arc : (a : Edge) (s : ℕ) (e : Event) → a.from ≡ s → a.event ≡ e → a ≡ arc s e a.to
same_arc a s e from event = ap₂ (λ (f : ℕ) (v : Event). arc f v a.to) from event

-- the arc at the cut, where it is one by e, leads to the least target
pub least_at_cut : (g : StateGraph) (s : ℕ) (e : Event) (arcs : List Edge) (k : ℕ) (d : Edge) → AreOut g s arcs
    → IsPartitionPoint (λ a. is_earlier e a ≡ true) (λ a. is_earlier e a ≡ false) arcs k → k < length arcs
    → (get_or arcs k d).event ≡ e → IsLeastTarget g s e (get_or arcs k d).to
least_at_cut g s e arcs k d out cut within event =
    let a : Edge = get_or arcs k d in
    let is_arc : a ≡ arc s e a.to = same_arc a s e (out_from g s arcs k d out within) event in
    let there = ((out.exactly a).0 (k, within, get_or_default arcs k a d within)).0 in
    record {
      step = subst (λ (x : Edge). Contains g.edges x) is_arc there;
      least = λ u step. (
          let other = at_cut g s e u arcs k out cut step in
          let b : Edge = arc s e u in
          elim (cases_lt k other.0) [
            | inl lt ↦ (
                let at : get_or arcs other.0 d ≡ b = get_or_default arcs other.0 d b other.2 ∙ other.3 in
                let less = rw (at, is_arc) at (in_order arcs out.ordered k other.0 d lt other.2) in
                let rises = to_lt (arc s e a.to) b less refl refl in
                omega (arith, rises))
            | inr ge ↦ (
                let same : other.0 ≡ k = omega (arith, other.1) in
                let at : a ≡ b =
                get_or_default arcs k d b within ∙ ap (λ (n : ℕ). get_or arcs n b) (sym same) ∙ other.3 in
                omega (arith, ap (λ (x : Edge). x.to) at))
          ]);
    }

-- where it is none, no arc leaves s by e
pub none_at_cut : (g : StateGraph) (s : ℕ) (e : Event) (arcs : List Edge) (k : ℕ) (d : Edge)
    → AreOut g s arcs → IsPartitionPoint (λ a. is_earlier e a ≡ true) (λ a. is_earlier e a ≡ false) arcs k
    → (k < length arcs → (get_or arcs k d).event ≡ e → ⊥) → IsTrue (enables g s e) → ⊥
none_at_cut g s e arcs k d out cut other enabled =
    let found = step_from_enables g s e enabled in
    let b : Edge = arc s e found.0 in
    let here = at_cut g s e found.0 arcs k out cut found.1 in
    let within : k < length arcs = omega (arith, here.1, here.2) in
    let rises = out_rising g s arcs out k here.0 d here.1 here.2 in
    let at : get_or arcs here.0 d ≡ b = get_or_default arcs here.0 d b here.2 ∙ here.3 in
    let places : event_place (get_or arcs k d).event ≤ event_place e = rw at at rises in
    elim (cases_lt (event_place (get_or arcs k d).event) (event_place e)) [
      | inl lt ↦ true≢false (sym (ap is_lt (event_Less (get_or arcs k d).event e lt)) ∙ cut.1 k d (omega arith) within)
      | inr ge ↦ other within (event_from_place (get_or arcs k d).event e (omega (arith, places, ge)))
    ]
