-- The first of the states from which inputs alone lead to both states of a pair.
use Rattle.std.proofs.Common.{◌≡◌, ℕ, zero, suc, ◌+◌, ◌<◌, ◌≤◌, ◌⊎◌, ◌∙◌, sym, refl, ap, ap₂, subst, arith, Bool, true}
use Rattle.std.proofs.Common.{false, not, cond, List, [], ◌∷◌, length, map, set, Contains, inl, inr, Option, Some, None}
use Rattle.std.proofs.Common.{length-set, slice_index_or}
use Rattle.std.proofs.Math.ListN.{replicate}
use Rattle.std.proofs.lemmas.Bool.{cases_Bool, true≢false}
use Rattle.std.proofs.lemmas.List.{length-replicate}
use Rattle.std.proofs.lemmas.List.FromFn.{length-map-range_with_len, get_or-map-range_with_len}
use Rattle.std.proofs.lemmas.List.Sums.{sum_by-set}
use Rattle.std.specs.List.{range_with_len}
use Rattle.si_base.specs.declared.ids.Event.{Event}
use Rattle.si_base.specs.declared.graph.Edge.{Edge}
use Rattle.si_base.specs.Graph.{StateGraph, IsGraph, arc}
use Rattle.si_base.specs.Codes.{CodedGraph, IsCoded}
use Rattle.si_base.specs.Order.{Before}
use Rattle.si_base.proofs.StepCodes.{step_within}
use Rattle.si_checks.proofs.SearchDecisions.{Decided, both, some_of, same_value}
use Rattle.si_checks.proofs.SearchFirst.{firsts_at_one_place}
use Rattle.si_base.specs.Sets.{IsIn}
use Rattle.si_graph.specs.Loops.Reach.{unmarked}
use Rattle.si_graph.proofs.SearchLemmas.{stays_in, in_cases, is_set, in_none}
use Rattle.si_walks.specs.declared.arcs.Arcs.{Arcs}
use Rattle.si_walks.specs.declared.arcs.Arcs.TheVariants.{OfInputs}
use Rattle.si_walks.specs.Walks.{Takes, WalkAlong, LeadsAlong, InputsLead, IsFirstWalk}
use Rattle.si_walks.specs.Distances.{at, IsDistance, AreDistances}
use Rattle.si_walks.specs.Loops.Sources.{distance_sum, arcs_to_both, IsNearestBelow, IsNearestOrNone}
use Rattle.si_walks.specs.Joined.{Source, source_place, IsSource, IsFirstSource, IsSourceOrNone}
use Rattle.si_walks.proofs.WalkEvents.{taken}
use Rattle.si_walks.proofs.SourceNearest.{some_nearest}
use Rattle.si_walks.proofs.FirstWalks.{shortest, at_least, some_first_walk, one_first_walk}
use Rattle.si_walks.proofs.WalkSteps.{distance_of, walk_of, first_as_long}

-- a walk to a state of the graph begins at one
pub begins_within : (g : StateGraph) (arcs : Arcs) (s : ℕ) (es : List Event) (t : ℕ) → IsGraph g → t < g.states
    → WalkAlong g arcs s es t → s < g.states
begins_within g arcs s [] t is within walk = subst (λ (x : ℕ). x < g.states) (sym walk) within
begins_within g arcs s (e ∷ es) t is within (u, takes, step, walk) = (step_within g s e u is step).0

-- both distances of which there are so many arcs together
both_of : (x y : Option ℕ) (n : ℕ) → distance_sum x y ≡ Some n
    → (k : ℕ) × (m : ℕ) × (x ≡ Some k) × (y ≡ Some m) × (n ≡ k + m)
both_of None y n is = absurd (none is)
  where
    none : None ≡ Some n → ⊥
    none same = cc
both_of (Some k) None n is = absurd (none is)
  where
    none : None ≡ Some n → ⊥
    none same = cc
both_of (Some k) (Some m) n is = (k, m, refl, refl, cc)

module _ (c : CodedGraph) (p q : ℕ) (first second : List (Option ℕ)) (is_graph : IsGraph c.graph)
    (p_within : p < c.graph.states) (q_within : q < c.graph.states) (to_p : AreDistances c.graph OfInputs p first)
    (to_q : AreDistances c.graph OfInputs q second) where
  -- a source is as far as its walks are long at most
  far_of : (x : Source) → IsSource c (p, q) x → (n : ℕ) × (x.state < c.graph.states)
      × (arcs_to_both first second x.state ≡ Some n) × (n ≤ length x.first + length x.second)
  far_of x is =
      let within = begins_within c.graph OfInputs x.state x.first p is_graph p_within is.to_first in
      let one = distance_of c.graph OfInputs p first is_graph to_p x.state x.first within is.to_first in
      let other = distance_of c.graph OfInputs q second is_graph to_q x.state x.second within is.to_second in (
        one.0 + other.0,
        within,
        ap₂ distance_sum one.1 other.1,
        omega (arith, one.2, other.2),
      )

  pub no_source : IsNearestOrNone first second (length first) None → (x : Source) → IsSource c (p, q) x → ⊥
  no_source none x is =
      let far = far_of x is in none x.state far.0 (omega (arith, far.1, to_p.size)) far.2

  -- from the nearest inputs lead to both
  pub source_within : (s : ℕ) → IsNearestBelow first second (length first) s → s < c.graph.states
  source_within s near = omega (arith, near.below, to_p.size)

  pub leads_to_first : (s : ℕ) → IsNearestBelow first second (length first) s → InputsLead c.graph s p
  leads_to_first s near =
      let parts = both_of (at first s) (at second s) near.arcs near.has in
      let way = walk_of c.graph OfInputs p first is_graph to_p s parts.0 (source_within s near) parts.2 in
      (way.0.0, way.0.2)

  pub leads_to_second : (s : ℕ) → IsNearestBelow first second (length first) s → InputsLead c.graph s q
  leads_to_second s near =
      let parts = both_of (at first s) (at second s) near.arcs near.has in
      let way = walk_of c.graph OfInputs q second is_graph to_q s parts.1 (source_within s near) parts.3 in
      (way.0.0, way.0.2)

  pub first_source : (x : Source) → IsNearestBelow first second (length first) x.state
      → IsFirstWalk c.graph OfInputs x.state p x.first → IsFirstWalk c.graph OfInputs x.state q x.second
      → IsFirstSource c (p, q) x
  first_source x near one other =
      let parts = both_of (at first x.state) (at second x.state) near.arcs near.has in
      let within = source_within x.state near in
      let one_size =
      first_as_long c.graph OfInputs p first is_graph to_p x.state parts.0 x.first within parts.2 one in
      let other_size =
      first_as_long c.graph OfInputs q second is_graph to_q x.state parts.1 x.second within parts.3 other in
      let whole : length x.first + length x.second ≡ near.arcs = omega (arith, parts.4, one_size, other_size) in
      record {
        is_first = record {
          holds = record { to_first = one.holds; to_second = other.holds };
          none_before = λ y is before. (
              let far = far_of y is in
              let least = near.least y.state far.0 (omega (arith, far.1, to_p.size)) far.2 in
              later y far.0 far.3 whole least before);
        };
        first = one;
        second = other;
      }
    where
      later : (y : Source) (n : ℕ) → n ≤ length y.first + length y.second
          → length x.first + length x.second ≡ near.arcs
          → (near.arcs < n) ⊎ ((near.arcs ≡ n) × (x.state ≤ y.state)) → Before (source_place y) (source_place x) → ⊥
      later y n long whole (inl more) (inl less) = absurd (omega arith)
      later y n long whole (inr tied) (inl less) = absurd (omega (arith, tied.0))
      later y n long whole (inl more) (inr (same, rest)) = absurd (omega arith)
      later y n long whole (inr tied) (inr (same, (inl less))) = absurd (omega (arith, tied.1))
      later y n long whole (inr tied) (inr (same, (inr (state, none)))) = absurd none

-- ---- one first source at most
pub one_first_source : (c : CodedGraph) (pair : ℕ × ℕ) (x y : Source) → IsFirstSource c pair x
    → IsFirstSource c pair y → x ≡ y
one_first_source c pair x y is also =
    let places = firsts_at_one_place source_place (IsSource c pair) x y refl is.is_first also.is_first in
    let state : x.state ≡ y.state = cc in
    let G = c.graph in
    let first : x.first ≡ y.first = one_first_walk G OfInputs y.state pair.0 x.first y.first
    (subst (λ (s : ℕ). IsFirstWalk G OfInputs s pair.0 x.first) state is.first) also.first in
    let second : x.second ≡ y.second = one_first_walk G OfInputs y.state pair.1 x.second y.second
    (subst (λ (s : ℕ). IsFirstWalk G OfInputs s pair.1 x.second) state is.second) also.second in
    λ i. record { state = state i; first = first i; second = second i }

pub one_source_or_none : (c : CodedGraph) (pair : ℕ × ℕ) (x y : Option Source) → IsSourceOrNone c pair x
    → IsSourceOrNone c pair y → x ≡ y
one_source_or_none c pair None None is also = refl
one_source_or_none c pair None (Some y) is also = absurd (is y also.is_first.holds)
one_source_or_none c pair (Some x) None is also = absurd (also x is.is_first.holds)
one_source_or_none c pair (Some x) (Some y) is also = ap Some (one_first_source c pair x y is also)

-- ---- which states lead to a target
module _ (g : StateGraph) (arcs : Arcs) (t : ℕ) (is : IsGraph g) (within : t < g.states) where
  -- marks of states that lead to the target, which is among them
  record AreLeading (marks : List Bool) : Type 0 where
    size : length marks ≡ g.states
    begun : IsIn marks t
    sound : (s : ℕ) → IsIn marks s → LeadsAlong g arcs s t

  -- an arc of that kind leads from a state without a mark into the marked ones
  abbrev Enters : List Bool → Edge → Type 0
  Enters marks a = Takes g arcs a.event × (IsIn marks a.to × (slice_index_or marks a.from false ≡ false))

  entering : (marks : List Bool) → Decided ((a : Edge) × Contains g.edges a × Enters marks a)
  entering marks = some_of (Enters marks)
      (λ a. both (taken g arcs a.event)
      (both (same_value (slice_index_or marks a.to false) true) (same_value (slice_index_or marks a.from false) false)))
      g.edges

  from_within : (a : Edge) → Contains g.edges a → a.from < g.states
  from_within a there = (step_within g a.from a.event a.to is there).0

  marked_more : (marks : List Bool) → AreLeading marks → (a : Edge) → Contains g.edges a → Enters marks a
      → AreLeading (set marks a.from true)
  marked_more marks are a there enters =
      let inside : a.from < length marks = omega (arith, are.size, from_within a there) in
      record {
        size = length-set marks a.from true ∙ are.size;
        begun = stays_in marks a.from t inside are.begun;
        sound = λ s marked. elim (in_cases marks a.from s marked) [
          | inl same ↦ subst (λ (x : ℕ). LeadsAlong g arcs x t) (sym same)
              (let on = are.sound a.to enters.1.0 in (a.event ∷ on.0, (a.to, enters.0, there, on.1)))
          | inr old ↦ are.sound s old
        ];
      }

  fewer : (marks : List Bool) → AreLeading marks → (a : Edge) → Contains g.edges a → Enters marks a
      → unmarked (set marks a.from true) < unmarked marks
  fewer marks are a there enters =
      let inside : a.from < length marks = omega (arith, are.size, from_within a there) in
      omega (arith, rw enters.1.1 at (sum_by-set (λ x. cond (not x) 1 0) marks a.from true false inside))

  -- where no such arc is left each state that leads to the target is marked
  marked_along : (marks : List Bool) → IsIn marks t → (((a : Edge) × Contains g.edges a × Enters marks a) → ⊥)
      → (es : List Event) (s : ℕ) → WalkAlong g arcs s es t → IsIn marks s
  marked_along marks begun none [] s walk = subst (IsIn marks) (sym walk) begun
  marked_along marks begun none (e ∷ es) s (u, takes, step, walk) =
      let there = marked_along marks begun none es u walk in
      elim (cases_Bool (slice_index_or marks s false)) [
        | inl marked ↦ marked
        | inr unmarked_one ↦ absurd (none (arc s e u, step, (takes, (there, unmarked_one))))
      ]

  -- the states that lead to the target
  abbrev AllLeading : List Bool → Type 0
  AllLeading marks = AreLeading marks × ((s : ℕ) → LeadsAlong g arcs s t → IsIn marks s)

  spread : (n : ℕ) (marks : List Bool) → unmarked marks < n → AreLeading marks
      → (done : List Bool) × AllLeading done
  spread zero marks below are = absurd (omega arith)
  spread (suc n) marks below are = elim (entering marks) [
    | inl found ↦ spread n (set marks found.0.from true) (omega (arith, fewer marks are found.0 found.1 found.2))
        (marked_more marks are found.0 found.1 found.2)
    | inr none ↦ (marks, (are, λ s leads. marked_along marks are.begun none leads.0 s leads.1))
  ]

  some_marks : (done : List Bool) × AllLeading done
  some_marks =
      let blank : List Bool = replicate g.states false in
      let size : length blank ≡ g.states = length-replicate g.states false in
      let alone : List Bool = set blank t true in
      let inside : t < length blank = omega (arith, within) in
      spread (unmarked alone + 1) alone (omega arith) (record {
        size = length-set blank t true ∙ size;
        begun = is_set blank t inside;
        sound = λ s marked. elim (in_cases blank t s marked) [
          | inl same ↦ ([], same)
          | inr old ↦ absurd (in_none g.states s old)
        ];
      })

  decided_leads : (s : ℕ) → Decided (LeadsAlong g arcs s t)
  decided_leads s =
      let done = some_marks in
      elim (cases_Bool (slice_index_or done.0 s false)) [
        | inl marked ↦ inl (done.1.0.sound s marked)
        | inr unmarked_one ↦ inr (λ leads. true≢false (sym (done.1.1 s leads) ∙ unmarked_one))
      ]

  -- ---- each state has a distance to the target, or none
  some_distance : (s : ℕ) → (d : Option ℕ) × IsDistance g arcs s t d
  some_distance s = elim (decided_leads s) [
    | inr none ↦ (None, none)
    | inl leads ↦ elim (shortest g arcs t s (length leads.0 + 1)) [
      | inl none ↦ absurd (none (length leads.0) (omega arith) (leads.0, refl, leads.1))
      | inr found ↦ (Some found.0, (found.1, at_least g arcs t s found.0 found.2))
    ]
  ]

  pub some_distances : (ds : List (Option ℕ)) × AreDistances g arcs t ds
  some_distances =
      let far : ℕ → Option ℕ = λ s. (some_distance s).0 in
      let ds : List (Option ℕ) = map far (range_with_len 0 g.states) in (
        ds,
        record {
          size = length-map-range_with_len far 0 g.states;
          each = λ s inside.
              (let is_far : at ds s ≡ far s = get_or-map-range_with_len far 0 g.states s s None inside (omega arith) in
              subst (IsDistance g arcs s t) (sym is_far) (some_distance s).1);
        },
      )

-- ---- some first source, or none
pub some_source_or_none : (c : CodedGraph) (p q : ℕ) → IsCoded c → p < c.graph.states → q < c.graph.states
    → (found : Option Source) × IsSourceOrNone c (p, q) found
some_source_or_none c p q coded p_within q_within =
    let is = coded.graph_is in
    let to_p = some_distances c.graph OfInputs p is p_within in
    let to_q = some_distances c.graph OfInputs q is q_within in
    let near = some_nearest to_p.0 to_q.0 (length to_p.0) in
    by to_p.0 to_q.0 to_p.1 to_q.1 near.0 near.1
  where
    by : (first second : List (Option ℕ)) → AreDistances c.graph OfInputs p first
        → AreDistances c.graph OfInputs q second → (best : Option ℕ)
        → IsNearestOrNone first second (length first) best → (found : Option Source) × IsSourceOrNone c (p, q) found
    by first second to_p to_q None none =
        (None, no_source c p q first second coded.graph_is p_within q_within to_p to_q none)
    by first second to_p to_q (Some s) near =
        let to_first = leads_to_first c p q first second coded.graph_is p_within q_within to_p to_q s near in
        let to_second = leads_to_second c p q first second coded.graph_is p_within q_within to_p to_q s near in
        let one = some_first_walk c.graph OfInputs p coded.deterministic s to_first in
        let other = some_first_walk c.graph OfInputs q coded.deterministic s to_second in
        let x : Source = record { state = s; first = one.0; second = other.0 } in
        (Some x, first_source c p q first second coded.graph_is p_within q_within to_p to_q x near one.1 other.1)
