-- A signal has no values exactly where two walks give it two.
use Rattle.std.proofs.Common.{◌≡◌, ◌≢◌, ℕ, ◌<◌, ◌⊎◌, ◌↔◌, not, Bool, true, false, List, [], ◌∷◌, ◌++◌, Contains, Option, Some, None}
use Rattle.std.proofs.Common.{refl, sym, ap, ap₂, subst, ◌∙◌, inl, inr}
use mathlib.Core.Bool.{beq}
use Rattle.si_base.specs.declared.ids.Event.{Event}
use Rattle.si_base.specs.declared.graph.Edge.{Edge}
use Rattle.si_base.specs.Codes.{AreValues, HasValues, IsIdle}
use Rattle.si_base.specs.Graph.{StateGraph, Step, Walk, IsGraph, arc, rise, fall}
use Rattle.si_base.specs.Order.{IsFirst}
use Rattle.si_base.proofs.CodeParity.{turn, values_along}
use Rattle.si_base.proofs.StepCodes.{step_within, turns, old_value}
use Rattle.si_checks.proofs.SearchDecisions.{same_value}
use Rattle.si_checks.specs.Loops.Searches.{IsFirstOrNone}
use Rattle.si_told.specs.All.{arc_place}
use Rattle.si_breaches.specs.Breaches.{AreFirstWays, IsTorn, Switches, Differs, IsClash, by_arc, is_odd}
use Rattle.si_breaches.specs.declared.clashes.Clash.{Clash}
use Rattle.si_breaches.specs.declared.clashes.Clash.TheVariants.{Torn, Apart}
use Rattle.si_breaches.proofs.BreachTexts.{first_arc, torn, own, differs}
use Rattle.si_breaches.proofs.JumpLemmas.{odd_append, odd_own, odd_other}
use Rattle.si_told.proofs.ArcOrder.{walk_of}
use Rattle.si_walks.proofs.FirstPaths.{walk_of_path}
use Rattle.si_walks.specs.Paths.{events_of}

-- ---- truth values
turn_same : (p q v : Bool) → turn p v ≡ turn q v → p ≡ q
turn_same true true v same = refl
turn_same false false v same = refl
turn_same true false true same = sym same
turn_same true false false same = same
turn_same false true true same = sym same
turn_same false true false same = same

alike_turns : (p q v : Bool) → beq p q ≡ beq (turn p v) (turn q v)
alike_turns true true true = refl
alike_turns true true false = refl
alike_turns true false true = refl
alike_turns true false false = refl
alike_turns false true true = refl
alike_turns false true false = refl
alike_turns false false true = refl
alike_turns false false false = refl

-- two arcs that tell one value at the start
told_by : (p q up also : Bool) → beq p q ≡ beq up also → turn q (turn p up) ≡ also
told_by true true true true same = refl
told_by true true false false same = refl
told_by true false true false same = refl
told_by true false false true same = refl
told_by false true true false same = refl
told_by false true false true same = refl
told_by false false true true same = refl
told_by false false false false same = refl
told_by true true true false same = same
told_by true true false true same = sym same
told_by true false true true same = same
told_by true false false false same = sym same
told_by false true true true same = same
told_by false true false false same = sym same
told_by false false true false same = same
told_by false false false true same = sym same

turn_first : (p v up : Bool) → turn (turn p true) v ≡ up → turn p v ≡ not up
turn_first true true up is = ap not is
turn_first true false up is = ap not is
turn_first false true up is = ap not is
turn_first false false up is = ap not is

turn_none : (p : Bool) → turn p false ≡ p
turn_none true = refl
turn_none false = refl

not_not_same : (p q : Bool) → ((p ≢ q) → ⊥) → p ≡ q
not_not_same p q none = elim (same_value p q) [ inl same ↦ same | inr apart ↦ absurd (none apart) ]

-- ---- walks
walk_push : (g : StateGraph) (s : ℕ) (es : List Event) (t : ℕ) (e : Event) (u : ℕ) → Walk g s es t → Step g t e u
    → Walk g s (es ++ e ∷ []) u
walk_push g s [] t e u walk step = (u, subst (λ (k : ℕ). Step g k e u) (sym walk) step, refl)
walk_push g s (f ∷ es) t e u (k, first, walk) step = (k, first, walk_push g k es t e u walk step)

module _ (g : StateGraph) (is : IsGraph g) (walk : ℕ → List Event) (ways : AreFirstWays g walk) where
  walk_to : (s : ℕ) → s < g.states → Walk g g.start (walk s) s
  walk_to s within =
      let way = ways.within s within in
      subst (λ (es : List Event). Walk g g.start es s) (sym way.events_are)
      (walk_of g g.start (events_of way.path) s (walk_of_path g g.start s way.path way.first.holds))

  walk_by : (x : Edge) → Contains g.edges x → Walk g g.start (by_arc walk x) x.to
  walk_by x there =
      let within = step_within g x.from x.event x.to is there in
      walk_push g g.start (walk x.from) x.from x.event x.to (walk_to x.from within.0) there

  -- ---- a clash shows that there are no values
  module _ (a : ℕ) (v : ℕ → Bool) (values : AreValues g a v) where
    ends : (x : Edge) → Switches g a x → x.event.up ≡ turn (is_odd a (by_arc walk x)) (v g.start)
    ends x switches =
        let up = x.event.up in
        let step : Step g x.from (record { sig = a; up = up }) x.to =
        subst (λ (n : ℕ). Step g x.from (record { sig = n; up = up }) x.to) switches.own switches.there in
        sym (turns g a v x.from x.to up values step ∙ ap not (old_value g a v x.from x.to up values step) ∙ twice up)
        ∙ values_along g a v g.start (by_arc walk x) x.to values (walk_by x switches.there)
      where
        twice : (b : Bool) → not (not b) ≡ b
        twice true = refl
        twice false = refl

    no_values : (k : Clash) → IsClash g walk a k → ⊥
    no_values (Torn x) first =
        let within = step_within g x.from x.event x.to is first.holds.there in
        first.holds.torn (turn_same (is_odd a (by_arc walk x)) (is_odd a (walk x.to)) (v g.start)
        (sym (values_along g a v g.start (by_arc walk x) x.to values (walk_by x first.holds.there))
        ∙ values_along g a v g.start (walk x.to) x.to values (walk_to x.to within.2)))
    no_values (Apart x y) clash =
        let p = is_odd a (by_arc walk x) in
        let q = is_odd a (by_arc walk y) in
        clash.2.holds.apart (alike_turns p q (v g.start)
        ∙ ap₂ beq (sym (ends x clash.1.holds)) (sym (ends y clash.2.holds.switches)))

  -- ---- and where there is none they have some
  idle_values : (a : ℕ) → IsIdle g a → HasValues g a
  idle_values a idle = (
    (λ s. false),
    record {
      rises = λ s t step. absurd (idle s (rise a) t step refl);
      falls = λ s t step. absurd (idle s (fall a) t step refl);
      keeps = λ s t e other step. refl;
      idle = λ none s within. refl;
    },
  )

  module _ (a : ℕ) (untorn : (x : Edge) → IsTorn g walk a x → ⊥) (x : Edge) (switches : Switches g a x)
      (alike : (y : Edge) → Differs g walk a x y → ⊥) where
    abbrev start : Bool
    start = turn (is_odd a (by_arc walk x)) x.event.up

    abbrev value : ℕ → Bool
    value s = turn (is_odd a (walk s)) start

    whole : (y : Edge) → Contains g.edges y → is_odd a (by_arc walk y) ≡ is_odd a (walk y.to)
    whole y there = not_not_same (is_odd a (by_arc walk y)) (is_odd a (walk y.to))
        (λ torn. untorn y (record { there = there; torn = torn }))

    after : (y : Edge) → Contains g.edges y → y.event.sig ≡ a → value y.to ≡ y.event.up
    after y there mine =
        let p = is_odd a (by_arc walk x) in
        let q = is_odd a (by_arc walk y) in
        let same : beq p q ≡ beq x.event.up y.event.up = not_not_same (beq p q) (beq x.event.up y.event.up)
        (λ apart. alike y (record { switches = record { there = there; own = mine }; apart = apart })) in
        ap (λ (r : Bool). turn r start) (sym (whole y there)) ∙ told_by p q x.event.up y.event.up same

    before : (y : Edge) → Contains g.edges y → y.event.sig ≡ a → value y.from ≡ not y.event.up
    before y there mine =
        let odd : is_odd a (by_arc walk y) ≡ turn (is_odd a (walk y.from)) true =
        odd_append a (walk y.from) (y.event ∷ []) ∙ ap (turn (is_odd a (walk y.from))) (odd_own a y.event (sym mine)) in
        turn_first (is_odd a (walk y.from)) start y.event.up
        (ap (λ (r : Bool). turn r start) (sym odd ∙ whole y there) ∙ after y there mine)

    kept : (y : Edge) → Contains g.edges y → (y.event.sig ≡ a → ⊥) → value y.to ≡ value y.from
    kept y there other =
        let odd : is_odd a (by_arc walk y) ≡ is_odd a (walk y.from) =
        odd_append a (walk y.from) (y.event ∷ []) ∙ ap (turn (is_odd a (walk y.from)))
        (odd_other a y.event (λ same. other (sym same))) ∙ turn_none (is_odd a (walk y.from)) in
        ap (λ (r : Bool). turn r start) (sym (whole y there) ∙ odd)

    are_values : AreValues g a value
    are_values = record {
      rises = λ s t step. (before (arc s (rise a) t) step refl, after (arc s (rise a) t) step refl);
      falls = λ s t step. (before (arc s (fall a) t) step refl, after (arc s (fall a) t) step refl);
      keeps = λ s t e other step. kept (arc s e t) step other;
      idle = λ idle s within. absurd (idle x.from x.event x.to switches.there switches.own);
    }

  clash_or_values : (a : ℕ) → ((k : Clash) × IsClash g walk a k) ⊎ HasValues g a
  clash_or_values a = (
      let first = first_arc g is (IsTorn g walk a) (torn g is walk a) (λ x t. t.there) in
      by_torn first.0 first.1)
    where
      by_differing : (x : Edge) → IsFirstOrNone arc_place (IsTorn g walk a) None → IsFirst arc_place (Switches g a) x
          → (o : Option Edge) → IsFirstOrNone arc_place (Differs g walk a x) o
          → ((k : Clash) × IsClash g walk a k) ⊎ HasValues g a
      by_differing x none first None alike =
          inr (value a none x first.holds alike, are_values a none x first.holds alike)
      by_differing x none first (Some y) other = inl (Apart x y, (none, first, other))

      by_own : IsFirstOrNone arc_place (IsTorn g walk a) None → (o : Option Edge)
          → IsFirstOrNone arc_place (Switches g a) o → ((k : Clash) × IsClash g walk a k) ⊎ HasValues g a
      by_own none None idle =
          inr (idle_values a (λ s e t step same. idle (arc s e t) (record { there = step; own = same })))
      by_own none (Some x) first =
          let other = first_arc g is (Differs g walk a x) (differs g is walk a x) (λ y d. d.switches.there) in
          by_differing x none first other.0 other.1

      by_torn : (o : Option Edge) → IsFirstOrNone arc_place (IsTorn g walk a) o
          → ((k : Clash) × IsClash g walk a k) ⊎ HasValues g a
      by_torn (Some x) first = inl (Torn x, first)
      by_torn None none =
          let first = first_arc g is (Switches g a) (own g is a) (λ x s. s.there) in by_own none first.0 first.1

  pub clash_tells : (a : ℕ) → ((k : Clash) × IsClash g walk a k) ↔ (HasValues g a → ⊥)
  clash_tells a = (
    (λ (k, clash) (v, values). no_values a v values k clash),
    (λ none. elim (clash_or_values a) [ inl clash ↦ clash | inr has ↦ absurd (none has) ]),
  )
