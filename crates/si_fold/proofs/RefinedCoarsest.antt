-- Each graph has coarsest classes of states that steps keep.
use Rattle.std.proofs.Common.{◌≡◌, ◌⊎◌, ℕ, ◌+◌, ◌<◌, ◌≤◌, ◌==◌, ◌&&◌, ◌||◌, not, zero, suc, Bool, true, false, []}
use Rattle.std.proofs.Common.{map, if◌then◌else◌, refl, sym, subst, ◌∙◌, arith, inl, inr, nat_lt, lt-ltb, ltb-true}
use Rattle.std.proofs.Common.{eq-eqb, eqb-true, zero-add}
use Rattle.std.specs.List.{list_all, range_with_len}
use Rattle.std.proofs.lemmas.Bool.{cases_Bool, cases_lt, and_parts, and_from, true≢false}
use Rattle.std.proofs.lemmas.List.FromFn.{length-map-range_with_len, get_or-map-range_with_len}
use Rattle.si_base.specs.declared.ids.Event.{Event}
use Rattle.si_base.specs.Graph.{StateGraph, Step, IsGraph, enables, same_event}
use Rattle.si_base.specs.Codes.{CodedGraph, IsDeterministic}
use Rattle.si_base.proofs.GraphSteps.{enables-step, step_from_enables, all_arcs, same_event-refl, same_event-true}
use Rattle.si_base.proofs.RightGateLemmas.{step_within}
use Rattle.si_fold.specs.Alike.{IsBisimulation, KeepsSteps, AreAlike, IsLeastAlike}
use Rattle.si_fold.specs.Loops.Partition.{Shape, class_at}
use Rattle.si_fold.specs.Loops.Refined.{AreRefined}
use Rattle.si_fold.proofs.AlikeLemmas.{alike_itself, alike_back, alike_through, alike_after, least_same}
use Rattle.si_fold.proofs.NumberSearch.{all_pass, all_or_pair, first_true, sum_to, sums_up, sums_apart}

or_left_out : (a b : Bool) → (not a || b) ≡ true → a ≡ true → b ≡ true
or_left_out true b either here = either
or_left_out false b either here = absurd (true≢false (sym here))

or_made : (a b : Bool) → (a ≡ true → b ≡ true) → (not a || b) ≡ true
or_made true b to = to refl
or_made false b to = refl

-- ---- states that so many steps don't tell apart
module _ (g : StateGraph) (is : IsGraph g) (det : IsDeterministic g) where
  abbrev enables_all : ℕ → ℕ → Bool
  enables_all s t = list_all (λ a. not (a.from == s) || enables g t a.event) g.edges

  abbrev leads_alike : (ℕ → ℕ → Bool) → ℕ → ℕ → Bool
  leads_alike same s t = list_all (λ x. list_all
      (λ y. not ((x.from == s) && ((y.from == t) && same_event x.event y.event)) || same x.to y.to) g.edges) g.edges

  abbrev same_in : ℕ → ℕ → ℕ → Bool
  same_in zero s t = enables_all s t && enables_all t s
  same_in (suc k) s t = same_in k s t && leads_alike (same_in k) s t

  all_enabled : (s t : ℕ) (e : Event) → enables_all s t ≡ true → enables g s e ≡ true → enables g t e ≡ true
  all_enabled s t e all here =
      let step = step_from_enables g s e here in
      let passes = all_arcs (λ a. not (a.from == s) || enables g t a.event) g s e step.0 all step.1 in
      or_left_out (s == s) (enables g t e) passes (eq-eqb s s refl)

  enables_all_from : (s t : ℕ) → ((e : Event) → enables g s e ≡ true → enables g t e ≡ true) → enables_all s t ≡ true
  enables_all_from s t each = all_pass (λ a. not (a.from == s) || enables g t a.event) g.edges (λ a there.
      or_made (a.from == s) (enables g t a.event) (λ from.
      each a.event (subst (λ (x : ℕ). enables g x a.event ≡ true) (eqb-true a.from s from)
      (enables-step g a.from a.event a.to there))))

  at_first : (k s t : ℕ) → same_in k s t ≡ true → same_in zero s t ≡ true
  at_first zero s t same = same
  at_first (suc k) s t same = at_first k s t (and_parts (same_in k s t) _ same).0

  same_enables : (k s t : ℕ) (e : Event) → same_in k s t ≡ true → enables g s e ≡ enables g t e
  same_enables k s t e same =
      let both = and_parts (enables_all s t) (enables_all t s) (at_first k s t same) in
      elim (cases_Bool (enables g s e)) [
        | inl here ↦ here ∙ sym (all_enabled s t e both.0 here)
        | inr not_here ↦ elim (cases_Bool (enables g t e)) [
          | inl there ↦ absurd (true≢false (sym (all_enabled t s e both.1 there) ∙ not_here))
          | inr not_there ↦ not_here ∙ sym not_there
        ]
      ]

  same_after : (k s t : ℕ) (e : Event) (u v : ℕ) → same_in (suc k) s t ≡ true → Step g s e u → Step g t e v
      → same_in k u v ≡ true
  same_after k s t e u v same one other =
      let leads = (and_parts (same_in k s t) (leads_alike (same_in k) s t) same).1 in
      let at_x = all_arcs (λ x. list_all
      (λ y. not ((x.from == s) && ((y.from == t) && same_event x.event y.event)) || same_in k x.to y.to) g.edges)
      g s e u leads one in
      let at_y = all_arcs
      (λ y. not ((s == s) && ((y.from == t) && same_event e y.event)) || same_in k u y.to) g t e v at_x other in
      or_left_out ((s == s) && ((t == t) && same_event e e)) (same_in k u v) at_y
      (and_from (s == s) _ (eq-eqb s s refl) (and_from (t == t) _ (eq-eqb t t refl) (same_event-refl e)))

  -- whatever keeps steps relates only such states
  kept_same : (related : ℕ → ℕ → Bool) → KeepsSteps g related → (k s t : ℕ) → related s t ≡ true
      → same_in k s t ≡ true
  kept_same related keeps zero s t here = and_from (enables_all s t) (enables_all t s)
      (enables_all_from s t (λ e enabled. sym (keeps.events s t e here) ∙ enabled))
      (enables_all_from t s (λ e enabled. keeps.events s t e here ∙ enabled))
  kept_same related keeps (suc k) s t here = and_from (same_in k s t) (leads_alike (same_in k) s t)
      (kept_same related keeps k s t here)
      (all_pass (λ x. list_all
      (λ y. not ((x.from == s) && ((y.from == t) && same_event x.event y.event)) || same_in k x.to y.to) g.edges)
      g.edges (λ x there_x.
      all_pass (λ y. not ((x.from == s) && ((y.from == t) && same_event x.event y.event)) || same_in k x.to y.to)
      g.edges (λ y there_y.
      or_made ((x.from == s) && ((y.from == t) && same_event x.event y.event)) (same_in k x.to y.to) (λ ends. (
      let p = and_parts (x.from == s) _ ends in
      let q = and_parts (y.from == t) (same_event x.event y.event) p.1 in
      let event : x.event ≡ y.event = same_event-true x.event y.event q.1 in
      let one : Step g s x.event x.to =
      subst (λ (w : ℕ). Step g w x.event x.to) (eqb-true x.from s p.0) there_x in
      let two : Step g t y.event y.to =
      subst (λ (w : ℕ). Step g w y.event y.to) (eqb-true y.from t q.0) there_y in
      let other : Step g t x.event y.to = subst (λ (e : Event). Step g t e y.to) (sym event) two in
      kept_same related keeps k x.to y.to (keeps.steps s t x.event x.to y.to here one other))))))

  -- ---- at last one more step tells no more apart
  abbrev count_in : ℕ → ℕ → ℕ → ℕ
  count_in k s t = if same_in k s t then 1 else 0

  abbrev total : ℕ → ℕ
  total k = sum_to (λ s. sum_to (count_in k s) g.states) g.states

  fewer_in : (k s t : ℕ) → count_in (suc k) s t ≤ count_in k s t
  fewer_in k s t = elim (cases_Bool (same_in (suc k) s t)) [
    | inl same ↦ (
        let before = (and_parts (same_in k s t) (leads_alike (same_in k) s t) same).0 in
        rw (same, before) (omega arith))
    | inr apart ↦ rw apart (omega arith)
  ]

  abbrev IsStable : ℕ → Type 0
  IsStable k = (s t : ℕ) → s < g.states → t < g.states → same_in k s t ≡ true → same_in (suc k) s t ≡ true

  stable_from : (fuel k : ℕ) → total k < fuel → (m : ℕ) × IsStable m
  stable_from zero k below = absurd (omega arith)
  stable_from (suc fuel) k below =
      elim (all_or_pair (λ s t. not (same_in k s t) || same_in (suc k) s t) g.states g.states) [
        | inl all ↦ (k, λ s t one two same. or_left_out (same_in k s t) (same_in (suc k) s t) (all s t one two) same)
        | inr (s, t, one, two, fails) ↦ (
            let parts = told (same_in k s t) (same_in (suc k) s t) fails in
            let strict : count_in (suc k) s t < count_in k s t = told_counts (same_in k s t) (same_in (suc k) s t)
            parts.0 parts.1 in
            let inner = sums_apart (count_in (suc k) s) (count_in k s) g.states t
            (λ j inside. fewer_in k s j) two strict in
            let less = sums_apart (λ i. sum_to (count_in (suc k) i) g.states) (λ i. sum_to (count_in k i) g.states)
            g.states s (λ i inside. sums_up (count_in (suc k) i) (count_in k i) g.states (λ j low. fewer_in k i j))
            one inner in
            stable_from fuel (suc k) (omega (arith, less, below)))
      ]
    where
      told : (a b : Bool) → (not a || b) ≡ false → (a ≡ true) × (b ≡ false)
      told true b fails = (refl, fails)
      told false b fails = absurd (true≢false fails)

      told_counts : (a b : Bool) → a ≡ true → b ≡ false → (if b then 1 else 0) < (if a then 1 else 0)
      told_counts true false one two = omega arith
      told_counts true true one two = absurd (true≢false two)
      told_counts false b one two = absurd (true≢false (sym one))

  some_stable : (m : ℕ) × IsStable m
  some_stable = stable_from (total 0 + 1) 0 (omega arith)

  -- ---- the states that nothing tells apart but their codes
  abbrev plain : CodedGraph
  plain = record { graph = g; codes = [] }

  abbrev within_same : ℕ → ℕ → ℕ → Bool
  within_same k s t = same_in k s t && (nat_lt s g.states && nat_lt t g.states)

  stable_bisimulation : (k : ℕ) → IsStable k → IsBisimulation plain (within_same k)
  stable_bisimulation k stable = record {
    codes = λ s t here. refl;
    keeps = record {
      events = λ s t e here. same_enables k s t e (and_parts (same_in k s t) _ here).0;
      steps = λ s t e u v here one other. (
          let parts = and_parts (same_in k s t) _ here in
          let range = and_parts (nat_lt s g.states) (nat_lt t g.states) parts.1 in
          let next = stable s t (ltb-true s g.states range.0) (ltb-true t g.states range.1) parts.0 in
          and_from (same_in k u v) _ (same_after k s t e u v next one other)
          (and_from (nat_lt u g.states) (nat_lt v g.states)
          (lt-ltb u g.states (step_within g s e u is one).2) (lt-ltb v g.states (step_within g t e v is other).2)));
    };
  }

  alike_from : (k s t : ℕ) → IsStable k → s < g.states → t < g.states → same_in k s t ≡ true → AreAlike plain s t
  alike_from k s t stable one two same = record {
    one_within = one;
    other_within = two;
    related = within_same k;
    bisimulation = stable_bisimulation k stable;
    holds = and_from (same_in k s t) _ same
        (and_from (nat_lt s g.states) (nat_lt t g.states) (lt-ltb s g.states one) (lt-ltb t g.states two));
  }

  alike_to : (k s t : ℕ) → AreAlike plain s t → same_in k s t ≡ true
  alike_to k s t a = kept_same a.related a.bisimulation.keeps k s t a.holds

  -- the least of them
  least_of : (s : ℕ) → s < g.states → (m : ℕ) × IsLeastAlike plain s m
  least_of s within =
      let k = some_stable.0 in
      let stable = some_stable.1 in
      elim (first_true (same_in k s) g.states) [
        | inl none ↦ absurd
            (true≢false (sym (alike_to k s s (alike_itself plain is det s within)) ∙ none s within))
        | inr (m, below, first) ↦ (
          m,
          record {
            alike = alike_from k s m stable within below first.passes;
            least = λ t a. elim (cases_lt t m) [
              | inl before ↦ absurd (true≢false (sym (alike_to k s t a) ∙ first.before t before))
              | inr after ↦ after
            ];
          },
        )
      ]

  pub least_or_zero : ℕ → ℕ
  least_or_zero s = elim (cases_lt s g.states) [ inl within ↦ (least_of s within).0 | inr past ↦ 0 ]

  least_is : (s m : ℕ) → s < g.states → IsLeastAlike plain s m → least_or_zero s ≡ m
  unfolding least_or_zero
  least_is s m within least = by (cases_lt s g.states)
    where
      by : (d : (s < g.states) ⊎ (g.states ≤ s))
          → elim d [ inl inside ↦ (least_of s inside).0 | inr past ↦ 0 ] ≡ m
      by (inl inside) = least_same plain is det s s (least_of s inside).0 m
          (alike_itself plain is det s within) (least_of s inside).1 least
      by (inr past) = absurd (omega (arith, past, within))

  -- ---- their classes
  abbrev pub refined_shape : Shape
  refined_shape = record {
    order = [];
    place = [];
    class = map least_or_zero (range_with_len 0 g.states);
    bounds = [];
    count = 0;
  }

  class_is : (s : ℕ) → s < g.states → class_at refined_shape s ≡ least_or_zero s
  class_is s within = get_or-map-range_with_len least_or_zero 0 g.states s s 0 within (zero-add s)

  pub shape_is_refined : AreRefined g refined_shape
  shape_is_refined = record {
    size_is = length-map-range_with_len least_or_zero 0 g.states;
    steps = λ s t e u one two same step. (
        let m = least_of s one in
        let n = least_of t two in
        let equal : m.0 ≡ n.0 = sym (least_is s m.0 one m.1) ∙ sym (class_is s one) ∙ same ∙ class_is t two
        ∙ least_is t n.0 two n.1 in
        let alike = alike_through plain is det s m.0 t m.1.alike
        (subst (λ (x : ℕ). AreAlike plain x t) (sym equal) (alike_back plain is det t n.0 n.1.alike)) in
        let after = alike_after plain is det s t e u alike step in
        (after.0, after.1, one_class u after.0 after.2));
    coarse = λ related keeps s t one two here. one_class s t (record {
      one_within = one;
      other_within = two;
      related = related;
      bisimulation = record { codes = λ x y same. refl; keeps = keeps };
      holds = here;
    });
  }
    where
      one_class : (s t : ℕ) → AreAlike plain s t → class_at refined_shape s ≡ class_at refined_shape t
      one_class s t a =
          let m = least_of s a.one_within in
          let n = least_of t a.other_within in
          class_is s a.one_within ∙ least_is s m.0 a.one_within m.1
          ∙ least_same plain is det s t m.0 n.0 a m.1 n.1
          ∙ sym (least_is t n.0 a.other_within n.1) ∙ sym (class_is t a.other_within)
