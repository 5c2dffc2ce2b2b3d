-- Signals without values: arcs at which walks tell two, and the first of them.
use Rattle.std.proofs.Common.{◌≡◌, ℕ, ◌+◌, ◌<◌, ◌≤◌, ◌⊎◌, ◌==◌, not, Bool, true, false, List, [], ◌∷◌, ◌++◌, length, get_or}
use Rattle.std.proofs.Common.{Contains, Option, Some, None, refl, sym, ap, ap₂, subst, ◌∙◌, arith, inl, inr, eqb-true}
use mathlib.Core.Bool.{beq}
use Rattle.std.proofs.lemmas.Bool.{cases_Bool, cases_eq, cases_order, eqb-false}
use Rattle.std.proofs.lemmas.List.{get_or_default}
use Rattle.std.specs.List.Sorted.{IsStrictlySortedBy}
use Rattle.si_base.specs.declared.ids.Event.{Event}
use Rattle.si_base.specs.declared.graph.Edge.{Edge}
use Rattle.si_base.specs.EdgeOrder.{edge_cmp}
use Rattle.si_base.specs.Graph.{StateGraph, IsGraph, event_place}
use Rattle.si_base.specs.Order.{Before, IsFirst}
use Rattle.si_base.proofs.CodeParity.{turn}
use Rattle.si_base.proofs.OrderLemmas.{before_apart, before_itself}
use Rattle.si_base.proofs.StepCodes.{step_within}
use Rattle.si_checks.specs.Loops.Searches.{IsFirstOrNone}
use Rattle.si_told.specs.All.{arc_place}
use Rattle.si_breaches.specs.Breaches.{IsTorn, Switches, Differs, IsClash, IsClashing, clashing_place, by_arc, is_odd}
use Rattle.si_breaches.specs.Loops.Breaches.{Meets, IsSought}
use Rattle.si_told.specs.Loops.Lines.{ArcIsWithin}
use Rattle.si_told.specs.Loops.Search.{Adds}
use Rattle.si_breaches.specs.declared.clashes.Clash.{Clash}
use Rattle.si_breaches.specs.declared.clashes.Clash.TheVariants.{Torn, Apart}
use Rattle.si_breaches.specs.declared.clashes.Clashing.{Clashing}
use Rattle.si_breaches.specs.declared.clashes.Sought.{Sought}
use Rattle.si_breaches.specs.declared.clashes.Sought.TheVariants.{Own, Differing}
use Rattle.si_breaches.specs.declared.clashes.Sought.TheVariants.{Torn as SoughtTorn}
use Rattle.si_told.proofs.Alls.{adds_none, adds_one}
use Rattle.si_graph.proofs.OrderLemmas.{event_from_place}
use Rattle.si_breaches.proofs.JumpLemmas.{odd_append, odd_own, odd_other}
use Rattle.si_told.proofs.ArcOrder.{arcs_before}

-- ---- what an arc tells
by_test : (p own q : Bool) → q ≡ own → not (beq p own) ≡ turn p q
by_test true true q is = rw is refl
by_test true false q is = rw is refl
by_test false true q is = rw is refl
by_test false false q is = rw is refl

pub turned : (walk : ℕ → List Event) (a : ℕ) (x : Edge) (p own : Bool) → p ≡ is_odd a (walk x.from)
    → own ≡ (x.event.sig == a) → not (beq p own) ≡ is_odd a (by_arc walk x)
turned walk a x p own told is =
    by_test p own (is_odd a (x.event ∷ [])) (one (cases_eq a x.event.sig))
    ∙ ap (λ (q : Bool). turn q (is_odd a (x.event ∷ []))) told ∙ sym (odd_append a (walk x.from) (x.event ∷ []))
  where
    one : (a ≡ x.event.sig) ⊎ (a ≡ x.event.sig → ⊥) → is_odd a (x.event ∷ []) ≡ own
    one (inl same) = odd_own a x.event same ∙ sym (is ∙ ap (λ (n : ℕ). x.event.sig == n) same ∙ itself x.event.sig)
      where
        itself : (n : ℕ) → (n == n) ≡ true
        itself n = elim (cases_Bool (n == n)) [
          | inl equal ↦ equal
          | inr unequal ↦ absurd (eqb-false n n unequal refl)
        ]
    one (inr other) = elim (cases_Bool own) [
      | inl equal ↦ absurd (other (sym (eqb-true x.event.sig a (sym is ∙ equal))))
      | inr unequal ↦ odd_other a x.event other ∙ sym unequal
    ]

-- ---- the first arc
module _ (g : StateGraph) (arcs : List Edge) (is : IsGraph g) (same : arcs ≡ g.edges) where
  sorted : IsStrictlySortedBy edge_cmp arcs
  sorted = subst (IsStrictlySortedBy edge_cmp) (sym same) is.ordered

  pub arc_there : (k : ℕ) (x : Edge) → k < length arcs → x ≡ get_or arcs k x → Contains g.edges x
  arc_there k x within at = subst (λ (l : List Edge). Contains l x) same (k, within, sym at)

  pub arc_within : (k : ℕ) (x : Edge) → k < length arcs → x ≡ get_or arcs k x → ArcIsWithin g x
  arc_within k x within at = step_within g x.from x.event x.to is (arc_there k x within at)

  -- what has been met by none of the first k arcs
  abbrev pub NoneTo : (Edge → Type 0) → ℕ → Type 0
  NoneTo P k = (j : ℕ) (d : Edge) → j < k → P (get_or arcs j d) → ⊥

  pub none_more : (P : Edge → Type 0) (k : ℕ) (x : Edge) → k < length arcs → x ≡ get_or arcs k x → NoneTo P k
      → (P x → ⊥) → NoneTo P (k + 1)
  none_more P k x within at none not_here j d less met = elim (cases_eq j k) [
    | inl here ↦ not_here (subst P (ap (λ (i : ℕ). get_or arcs i d) here ∙ get_or_default arcs k d x within ∙ sym at) met)
    | inr other ↦ none j d (omega arith) met
  ]

  module _ (walk : ℕ → List Event) (a : ℕ) (sought : Sought) where
    pub first_found : (k : ℕ) (x : Edge) → k < length arcs → x ≡ get_or arcs k x → NoneTo (Meets walk a sought) k
        → Meets walk a sought x → IsFirst arc_place (IsSought g walk a sought) x
    first_found k x within at none meets = record {
      holds = record { there = arc_there k x within at; meets = meets };
      none_before = earlier;
    }
      where
        earlier : (y : Edge) → IsSought g walk a sought y → Before (arc_place y) (arc_place x) → ⊥
        earlier y found before =
            let p : Contains arcs y = subst (λ (l : List Edge). Contains l y) (sym same) found.there in
            let is_y : get_or arcs p.0 y ≡ y = p.2 in
            elim (cases_order p.0 k) [
              | inl here ↦ (
                  let equal : y ≡ x =
                  sym is_y ∙ ap (λ (i : ℕ). get_or arcs i y) here ∙ get_or_default arcs k y x within ∙ sym at in
                  before_itself (arc_place x) (subst (λ (z : Edge). Before (arc_place z) (arc_place x)) equal before))
              | inr (inl less) ↦
                  none p.0 y less (subst (Meets walk a sought) (sym is_y) found.meets)
              | inr (inr more) ↦ before_apart (arc_place y) (arc_place x) before
                  (arcs_before arcs sorted k p.0 x more p.1 x y (sym at) (get_or_default arcs p.0 x y p.1 ∙ is_y))
            ]

    pub none_found : (k : ℕ) → length arcs ≤ k → NoneTo (Meets walk a sought) k → (x : Edge)
        → IsSought g walk a sought x → ⊥
    none_found k all none x found =
        let p : Contains arcs x = subst (λ (l : List Edge). Contains l x) (sym same) found.there in
        none p.0 x (omega (arith, p.1)) (subst (Meets walk a sought) (sym p.2) found.meets)

-- ---- in the words of clashes
module _ {P Q : Edge → Type 0} (to : (x : Edge) → P x → Q x) (back : (x : Edge) → Q x → P x) where
  pub first_as : (o : Option Edge) → IsFirstOrNone arc_place P o → IsFirstOrNone arc_place Q o
  first_as None none = λ x q. none x (back x q)
  first_as (Some x) first = record {
    holds = to x first.holds;
    none_before = λ y q before. first.none_before y (back y q) before;
  }

-- two arcs at one place are one, so the first is one
before_or_after : (x y : Edge) → Before (arc_place x) (arc_place y) ⊎ ((x ≡ y) ⊎ Before (arc_place y) (arc_place x))
before_or_after x y = elim (cases_order x.from y.from) [
  | inr (inl less) ↦ inl (inl less)
  | inr (inr more) ↦ inr (inr (inl more))
  | inl from ↦ elim (cases_order (event_place x.event) (event_place y.event)) [
    | inr (inl less) ↦ inl (inr (from, inl less))
    | inr (inr more) ↦ inr (inr (inr (sym from, inl more)))
    | inl event ↦ elim (cases_order x.to y.to) [
      | inr (inl less) ↦ inl (inr (from, inr (event, inl less)))
      | inr (inr more) ↦ inr (inr (inr (sym from, inr (sym event, inl more))))
      | inl to ↦ (
          let same_event : x.event ≡ y.event = event_from_place x.event y.event event in
          inr (inl (λ i. record { from = from i; event = same_event i; to = to i })))
    ]
  ]
]

one_first : (P : Edge → Type 0) (x y : Edge) → IsFirst arc_place P x → IsFirst arc_place P y → x ≡ y
one_first P x y p q = elim (before_or_after x y) [
  | inl before ↦ absurd (q.none_before x p.holds before)
  | inr (inl same) ↦ same
  | inr (inr after) ↦ absurd (p.none_before y q.holds after)
]

module _ (g : StateGraph) (walk : ℕ → List Event) (a : ℕ) where
  pub torn_as : (o : Option Edge) → IsFirstOrNone arc_place (IsSought g walk a SoughtTorn) o
      → IsFirstOrNone arc_place (IsTorn g walk a) o
  torn_as = first_as (λ x s. record { there = s.there; torn = s.meets }) (λ x t. record { there = t.there; meets = t.torn })

  pub own_as : (o : Option Edge) → IsFirstOrNone arc_place (IsSought g walk a Own) o
      → IsFirstOrNone arc_place (Switches g a) o
  own_as = first_as (λ x s. record { there = s.there; own = s.meets }) (λ x t. record { there = t.there; meets = t.own })

  pub differing_as : (y : Edge) (o : Option Edge) → IsFirstOrNone arc_place (IsSought g walk a (Differing y)) o
      → IsFirstOrNone arc_place (Differs g walk a y) o
  differing_as y = first_as
      (λ x s. record { switches = record { there = s.there; own = s.meets.0 }; apart = s.meets.1 })
      (λ x t. record { there = t.switches.there; meets = (t.switches.own, t.apart) })

  -- no clash where no arc is torn and the signal has no arc
  pub unswitched : IsFirstOrNone arc_place (IsTorn g walk a) None → IsFirstOrNone arc_place (Switches g a) None
      → (k : Clash) → IsClash g walk a k → ⊥
  unswitched none idle (Torn x) clash = none x clash.holds
  unswitched none idle (Apart x y) clash = idle x clash.1.holds

  -- or none of its arcs differs from the first
  pub agreeing : (x : Edge) → IsFirstOrNone arc_place (IsTorn g walk a) None → IsFirst arc_place (Switches g a) x
      → IsFirstOrNone arc_place (Differs g walk a x) None → (k : Clash) → IsClash g walk a k → ⊥
  agreeing x none first alike (Torn z) clash = none z clash.holds
  agreeing x none first alike (Apart z y) clash =
      alike y (subst (λ (w : Edge). Differs g walk a w y) (one_first (Switches g a) z x clash.1 first) clash.2.holds)

-- ---- signal by signal
module _ (g : StateGraph) (walk : ℕ → List Event) where
  pub clash_order : (x y : Clashing) → IsClashing g walk x → IsClashing g walk y → x.sig < y.sig
      → Before (clashing_place x) (clashing_place y)
  clash_order x y p q less = inl less

  one_clash : (a : ℕ) (k l : Clash) → IsClash g walk a k → IsClash g walk a l → k ≡ l
  one_clash a (Torn x) (Torn y) p q = ap Torn (one_first (IsTorn g walk a) x y p q)
  one_clash a (Torn x) (Apart y z) p q = absurd (q.0 x p.holds)
  one_clash a (Apart y z) (Torn x) p q = absurd (p.0 x q.holds)
  one_clash a (Apart x y) (Apart z w) p q = (
      let first : x ≡ z = one_first (Switches g a) x z p.1 q.1 in
      let second : y ≡ w = one_first (Differs g walk a z) y w
      (subst (λ (v : Edge). IsFirst arc_place (Differs g walk a v) y) first p.2) q.2 in
      ap₂ Apart first second)

  pub clash_here : (k : ℕ) (clash : Clash) (old new : List Clashing) → k < length g.signals → IsClash g walk k clash
      → new ≡ old ++ (record { sig = k; clash = clash }) ∷ []
      → Adds clashing_place (λ c. IsClashing g walk c × (c.sig ≡ k)) old new
  clash_here k clash old new within is pushed =
      adds_one clashing_place (λ c. IsClashing g walk c × (c.sig ≡ k)) old new here
      (record { within = within; clash = is }, refl) equal pushed
    where
      here : Clashing
      here = record { sig = k; clash = clash }

      equal : (c : Clashing) → IsClashing g walk c × (c.sig ≡ k) → here ≡ c
      equal c (also, at) =
          let same : clash ≡ c.clash = one_clash k clash c.clash is
          (subst (λ (n : ℕ). IsClash g walk n c.clash) at also.clash) in
          λ i. record { sig = sym at i; clash = same i }

  pub clash_pass : (k : ℕ) (old : List Clashing) → ((clash : Clash) → IsClash g walk k clash → ⊥)
      → Adds clashing_place (λ c. IsClashing g walk c × (c.sig ≡ k)) old old
  clash_pass k old none = adds_none clashing_place (λ c. IsClashing g walk c × (c.sig ≡ k)) old
      (λ c is. none c.clash (subst (λ (n : ℕ). IsClash g walk n c.clash) is.1 is.0.clash))
