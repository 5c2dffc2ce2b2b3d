-- Graphs that behave alike can go the same walks, and have no difference; of those that don't there is one first
-- difference at most.
use Rattle.std.proofs.Common.{◌≡◌, ℕ, Bool, true, false, List, [], ◌∷◌, ◌++◌, length, sym, refl, ap, subst, ◌∙◌}
use Rattle.std.proofs.Common.{arith, inl, inr, Option, Some, None}
use Rattle.std.proofs.lemmas.Bool.{cases_order}
use Rattle.std.proofs.lemmas.List.{length_push, length-map, same_from_push}
use Rattle.si_base.specs.declared.ids.Event.{Event}
use Rattle.si_base.specs.Graph.{StateGraph, Walk, enables, event_place}
use Rattle.si_base.specs.Codes.{IsDeterministic}
use Rattle.si_base.proofs.GraphSteps.{enables-step, step_from_enables}
use Rattle.si_graph.proofs.SearchLemmas.{Walk-push}
use Rattle.si_graph.proofs.OrderLemmas.{event_from_place}
use Rattle.si_checks.proofs.SearchFirst.{firsts_at_one_place}
use Rattle.si_same.specs.Same.{BehaveAlike, Difference, Differ, difference_place, IsFirstDifference}
use Rattle.si_same.specs.Same.{IsFirstDifferenceOrNone}
use Rattle.si_same.specs.Laws.{CanGo}
use Rattle.si_same.proofs.WalkOrder.{places, same_events}
use Rattle.si_same.proofs.SearchFirst.{walk_parts, walk_ends_once}

-- ---- related states along walks
module _ (f g : StateGraph) (a : BehaveAlike f g) where
  -- a walk of the one from related states is one of the other
  pub walk_follows : (es : List Event) (s t u : ℕ) → a.related s t ≡ true → Walk f s es u
      → (v : ℕ) × Walk g t es v × (a.related u v ≡ true)
  walk_follows [] s t u here walk = (t, refl, subst (λ x. a.related x t ≡ true) walk here)
  walk_follows (e ∷ es) s t u here walk =
      let enabled = sym (a.bisimulation.events s t e here) ∙ enables-step f s e walk.0 walk.1 in
      let step = step_from_enables g t e enabled in
      let next = a.bisimulation.steps s t e walk.0 step.0 here walk.1 step.1 in
      let rest = walk_follows es walk.0 step.0 u next walk.2 in (rest.0, (step.0, step.1, rest.1), rest.2)

  pub walks_related : (es : List Event) (s t u v : ℕ) → a.related s t ≡ true → Walk f s es u → Walk g t es v
      → a.related u v ≡ true
  walks_related [] s t u v here one other =
      subst (λ y. a.related u y ≡ true) other (subst (λ x. a.related x t ≡ true) one here)
  walks_related (e ∷ es) s t u v here one other =
      walks_related es one.0 other.0 u v (a.bisimulation.steps s t e one.0 other.0 here one.1 other.1) one.2 other.2

  pub no_difference : (d : Difference) → Differ f g d → ⊥
  no_difference d differ =
      differ.apart (a.bisimulation.events d.one d.other d.event
      (walks_related d.walk f.start g.start d.one d.other a.starts differ.one_after differ.other_after))

  pub goes_too : (es : List Event) → CanGo f es → CanGo g es
  goes_too es walk = let there = walk_follows es f.start g.start walk.0 a.starts walk.1 in (there.0, there.1)

  pub alike_back : BehaveAlike g f
  alike_back = record {
    related = λ t s. a.related s t;
    bisimulation = record {
      events = λ t s e here. sym (a.bisimulation.events s t e here);
      steps = λ t s e v u here one other. a.bisimulation.steps s t e u v here other one;
    };
    starts = a.starts;
  }

-- ---- walks that tell graphs apart
-- of two graphs that can go the same walks none goes on where the other doesn't
enabled_too : (f g : StateGraph) → IsDeterministic g → ((es : List Event) → CanGo f es → CanGo g es) → (es : List Event)
    (e : Event) (s t : ℕ) → Walk f f.start es s → Walk g g.start es t → enables f s e ≡ true → enables g t e ≡ true
enabled_too f g g_one goes es e s t one other enabled =
    let step = step_from_enables f s e enabled in
    let there = goes (es ++ e ∷ []) (step.0, Walk-push f es f.start s step.0 e one step.1) in
    let parts = walk_parts g g.start es e there.0 there.1 in
    let same = walk_ends_once g g_one g.start es parts.0 t parts.1 other in
    subst (λ x. enables g x e ≡ true) same (enables-step g parts.0 e there.0 parts.2)

pub no_difference_of_walks : (f g : StateGraph) → IsDeterministic f → IsDeterministic g
    → ((es : List Event) → CanGo f es → CanGo g es) → ((es : List Event) → CanGo g es → CanGo f es)
    → (d : Difference) → Differ f g d → ⊥
no_difference_of_walks f g f_one g_one forth back d differ =
    differ.apart (both (enables f d.one d.event) (enables g d.other d.event)
    (enabled_too f g g_one forth d.walk d.event d.one d.other differ.one_after differ.other_after)
    (enabled_too g f f_one back d.walk d.event d.other d.one differ.other_after differ.one_after))
  where
    both : (x y : Bool) → (x ≡ true → y ≡ true) → (y ≡ true → x ≡ true) → x ≡ y
    both true y there here = sym (there refl)
    both false true there here = here refl
    both false false there here = refl

-- ---- one first difference
one_place_size : (d x : Difference) → length d.walk ≡ length x.walk
    → length (difference_place d) ≡ length (difference_place x)
one_place_size d x same =
    omega (
      arith,
      length_push (length d.walk ∷ places d.walk) (event_place d.event),
      length_push (length x.walk ∷ places x.walk) (event_place x.event),
      length-map d.walk event_place,
      length-map x.walk event_place,
    )

pub one_difference : (f g : StateGraph) → IsDeterministic f → IsDeterministic g → (d x : Difference)
    → IsFirstDifference f g d → IsFirstDifference f g x → d ≡ x
one_difference f g f_one g_one d x is also = elim (cases_order (length d.walk) (length x.walk)) [
  | inl same ↦ (
      let place = firsts_at_one_place difference_place (Differ f g) d x (one_place_size d x same) is also in
      let parts = same_from_push (length d.walk ∷ places d.walk) (length x.walk ∷ places x.walk) (event_place d.event)
      (event_place x.event) place in
      let tail : places d.walk ≡ places x.walk = same_tail (length d.walk) (length x.walk) (places d.walk) (places x.walk)
      parts.0 in
      let walk : d.walk ≡ x.walk = same_events d.walk x.walk tail in
      let event : d.event ≡ x.event = event_from_place d.event x.event parts.1 in
      let one : d.one ≡ x.one = walk_ends_once f f_one f.start x.walk d.one x.one
      (subst (λ w. Walk f f.start w d.one) walk is.holds.one_after) also.holds.one_after in
      let other : d.other ≡ x.other = walk_ends_once g g_one g.start x.walk d.other x.other
      (subst (λ w. Walk g g.start w d.other) walk is.holds.other_after) also.holds.other_after in
      λ i. record { walk = walk i; event = event i; one = one i; other = other i })
  | inr (inl less) ↦ absurd (also.none_before d is.holds (inl less))
  | inr (inr more) ↦ absurd (is.none_before x also.holds (inl more))
]
  where
    same_tail : (m n : ℕ) (xs ys : List ℕ) → m ∷ xs ≡ n ∷ ys → xs ≡ ys
    same_tail m n xs ys same = cc

pub one_answer : (f g : StateGraph) → IsDeterministic f → IsDeterministic g → (found other : Option Difference)
    → IsFirstDifferenceOrNone f g found → IsFirstDifferenceOrNone f g other → found ≡ other
one_answer f g f_one g_one None None is also = refl
one_answer f g f_one g_one None (Some x) is also = absurd (no_difference f g is x also.holds)
one_answer f g f_one g_one (Some d) None is also = absurd (no_difference f g also d is.holds)
one_answer f g f_one g_one (Some d) (Some x) is also = ap Some (one_difference f g f_one g_one d x is also)
