-- Two graphs behave alike, or have a first difference: a search ends.
use Rattle.std.proofs.Common.{◌≡◌, ◌≢◌, ℕ, zero, suc, ◌+◌, ◌<◌, ◌≤◌, ◌⊎◌, true, sym, refl, subst}
use Rattle.std.proofs.Common.{add-one, eq-eqb, eqb-true, get_or}
use Rattle.std.proofs.lemmas.List.Kept.{IsStrictlySortedBy-filter}
use Rattle.si_base.specs.EdgeOrder.{edge_cmp}
use Rattle.si_graph.proofs.ListMembers.{Contains-filter, Contains-from_filter}
use Rattle.si_same.specs.Loops.Search.{pair_after, walk_at}
use Rattle.std.proofs.Common.{◌∙◌, arith, List, [], ◌∷◌, ◌++◌, length, map, filter, ◌==◌, inl, inr, Option, Some, None}
use Rattle.std.proofs.lemmas.Bool.{cases_eq, cases_lt, cases_Bool, true≢false}
use Rattle.std.proofs.lemmas.List.{get_or_default}
use Rattle.si_base.specs.declared.ids.Event.{Event}
use Rattle.si_base.specs.declared.graph.Edge.{Edge}
use Rattle.si_base.specs.Graph.{StateGraph, Step, enables, event_place, IsGraph}
use Rattle.si_base.specs.Codes.{IsDeterministic}
use Rattle.si_base.proofs.GraphSteps.{step_from_enables, enables-step}
use Rattle.si_graph.specs.Loops.Arcs.{AreOut, no_edge}
use Rattle.si_checks.proofs.ForkOrder.{NoneWithin, one_more, none_before, none_at_all, out_item}
use Rattle.si_same.specs.declared.pairs.Pair.{Pair}
use Rattle.si_same.specs.Loops.Classes.{Classes, GoesInto, moved}
use Rattle.si_same.specs.Same.{Difference, IsFirstDifferenceOrNone}
use Rattle.si_same.specs.Loops.Search.{pair_at, AddsCommon, IsLacking, IsFirstLacking, IsFirstLackingOrNone}
use Rattle.si_same.specs.Loops.Search.{IsFirstApartOrNone, One, Other, number, Search, IsSearching}
use Rattle.si_same.proofs.ApartLemmas.{lacking_step, only_other, first_of_one, earlier_of_one, earlier_of_other}
use Rattle.si_same.proofs.PairLemmas.{AreAddedUpTo, added_none, added_more, added_all}
use Rattle.si_same.proofs.SearchFirst.{search_ends, search_finds}
use Rattle.si_same.proofs.SearchSteps.{search_starts, search_skips, search_ties, search_ties_fewer, ties_size, few_common}
use Rattle.si_same.proofs.SearchSteps.{work_left, less_after_skip, less_after_ties}

-- ---- what each turn looks for is there
arcs_from : StateGraph → ℕ → List Edge
arcs_from g s = filter (λ a. a.from == s) g.edges

are_out : (g : StateGraph) (s : ℕ) → IsGraph g → AreOut g s (arcs_from g s)
unfolding arcs_from
are_out g s is = record {
  graph = is;
  exactly = λ a. (
    λ there. (let found = Contains-from_filter (λ (x : Edge). x.from == s) g.edges a there in
        (found.0, eqb-true a.from s found.1)),
    λ there. Contains-filter (λ (x : Edge). x.from == s) g.edges a there.0 (eq-eqb a.from s there.1),
  );
  ordered = IsStrictlySortedBy-filter edge_cmp (λ (a : Edge). a.from == s) g.edges is.ordered;
}

module _ (f g : StateGraph) (s t : ℕ) (arcs : List Edge) (out : AreOut f s arcs) where
  abbrev Lacks : Event → Type 0
  Lacks e = IsLacking f g s t e

  abbrev arc_at : ℕ → Edge
  arc_at n = get_or arcs n no_edge

  at_place : (n : ℕ) → n < length arcs → arc_at n ≡ get_or arcs n (arc_at n)
  at_place n within = get_or_default arcs n no_edge (arc_at n) within

  here_step : (n : ℕ) → n < length arcs → Step f s (arc_at n).event (arc_at n).to
  here_step n within = out_item f s arcs out n (arc_at n) within (at_place n within)

  lacking_within : (n : ℕ) → n ≤ length arcs
      → ((e : Event) × IsFirstLacking f g s t e) ⊎ NoneWithin arcs Lacks (λ e. e) n
  lacking_within zero up_to = inr (λ k d below e lacks same. absurd (omega arith))
  lacking_within (suc n) up_to = elim (lacking_within n (omega arith)) [
    | inl found ↦ inl found
    | inr none ↦ elim (cases_Bool (enables g t (arc_at n).event)) [
      | inl there ↦ inr (subst (λ m. NoneWithin arcs Lacks (λ e. e) m) (add-one n)
          (one_more f s arcs out Lacks (λ e. e) (λ e lacks. lacking_step f g s t e lacks) n (arc_at n) (omega arith)
          (at_place n (omega arith)) none
          (λ e lacks same. lacks.not_there (subst (λ x. enables g t x ≡ true) (sym same) there))))
      | inr not_there ↦ inl (
        (arc_at n).event,
        record {
          lacking = record {
            here = enables-step f s (arc_at n).event (arc_at n).to (here_step n (omega arith));
            not_there = λ there. true≢false (sym there ∙ not_there);
          };
          first = λ e less lacks. none_before f s arcs out Lacks (λ x. x) (λ x is. lacking_step f g s t x is) n
              (arc_at n) (omega arith) (at_place n (omega arith)) none e lacks less;
        },
      )
    ]
  ]

  first_lacking : (found : Option Event) × IsFirstLackingOrNone f g s t found
  first_lacking = elim (lacking_within (length arcs) (omega arith)) [
    | inl found ↦ (Some found.0, found.1)
    | inr none ↦ (
      None,
      (λ e lacks. none_at_all f s arcs out Lacks (λ x. x) (λ x is. lacking_step f g s t x is)
          (length arcs) (omega arith) none e lacks),
    )
  ]

  -- the targets by one more arc
  module _ (f_one : IsDeterministic f) (g_one : IsDeterministic g) (k : ℕ) (old : List Pair) where
    targets_up_to : (n : ℕ) → n ≤ length arcs
        → (new : List Pair) × AreAddedUpTo f g s t k arcs old n new
    targets_up_to zero up_to = (old, added_none f g f_one g_one s t k arcs out old)
    targets_up_to (suc n) up_to =
        let before = targets_up_to n (omega arith) in
        let a : Edge = arc_at n in
        let More : ℕ → Type 0 = λ m. (new : List Pair) × AreAddedUpTo f g s t k arcs old m new in
        subst More (add-one n) (elim (cases_Bool (enables g t a.event)) [
          | inl there ↦ (
              let step = step_from_enables g t a.event there in (
                before.0 ++ pair_after k (record { event = a.event; one = a.to; other = step.0 }) ∷ [],
                added_more f g f_one g_one s t k arcs out old n a before.0
                    (before.0 ++ pair_after k (record { event = a.event; one = a.to; other = step.0 }) ∷ [])
                    (omega arith) (at_place n (omega arith)) before.1 (inl (step.0, step.1, refl)),
              ))
          | inr not_there ↦ (
            before.0,
            added_more f g f_one g_one s t k arcs out old n a before.0 before.0 (omega arith)
                (at_place n (omega arith)) before.1
                (inr ((λ there. true≢false (sym there ∙ not_there)), refl)),
          )
        ])

    targets_added : (new : List Pair) × AddsCommon f g s t k old new
    targets_added =
        let all = targets_up_to (length arcs) (omega arith) in
        (all.0, added_all f g f_one g_one s t k arcs out old (length arcs) all.0 (omega arith) all.1)

first_apart : (f g : StateGraph) (s t : ℕ) → IsGraph f → IsGraph g
    → (found : Option Event) × IsFirstApartOrNone f g s t found
first_apart f g s t f_is g_is =
    let one = first_lacking f g s t (arcs_from f s) (are_out f s f_is) in
    let other = first_lacking g f t s (arcs_from g t) (are_out g t g_is) in
    both one.0 other.0 one.1 other.1
  where
    both : (one other : Option Event) → IsFirstLackingOrNone f g s t one → IsFirstLackingOrNone g f t s other
        → (found : Option Event) × IsFirstApartOrNone f g s t found
    both None other none is = (other, only_other f g s t none other is)
    both (Some a) None is none = (Some a, first_of_one f g s t a is (λ x less. none x))
    both (Some a) (Some b) is also = elim (cases_lt (event_place b) (event_place a)) [
      | inl less ↦ (Some b, earlier_of_other f g s t a b is also less)
      | inr up_to ↦ (Some a, earlier_of_one f g s t a b is also up_to)
    ]

-- ---- turn after turn
module _ (f g : StateGraph) (f_is : IsGraph f) (g_is : IsGraph g) (f_one : IsDeterministic f)
    (g_one : IsDeterministic g) where
  abbrev Answered : Type 0
  Answered = (found : Option Difference) × IsFirstDifferenceOrNone f g found

  abbrev GoesOn : Search → Type 0
  GoesOn x = (y : Search) × IsSearching f g y × (work_left f y < work_left f x)

  abbrev one_class : Search → ℕ
  one_class x = x.classes.class (number f (One (pair_at x.pairs x.done).one))

  abbrev other_class : Search → ℕ
  other_class x = x.classes.class (number f (Other (pair_at x.pairs x.done).other))

  ties_on : (x : Search) (is : IsSearching f g x) → x.done < length x.pairs → one_class x ≢ other_class x
      → ((e : Event) → enables f (pair_at x.pairs x.done).one e ≡ enables g (pair_at x.pairs x.done).other e) → GoesOn x
  ties_on x is within apart events =
      let p : Pair = pair_at x.pairs x.done in
      let added = targets_added f g p.one p.other (arcs_from f p.one) (are_out f p.one f_is) f_one g_one x.done x.pairs in
      let new = added.1 in
      let d : Classes = record {
        count = x.classes.count;
        class = λ z. moved (one_class x) (other_class x) (x.classes.class z);
      } in
      let into : GoesInto x.classes (one_class x) (other_class x) d =
      record { count_stays = refl; class_is = λ z. refl } in
      let y : Search = record { pairs = x.pairs ++ map (pair_after x.done) new.targets; done = x.done + 1; classes = d } in (
        y,
        search_ties f g f_is g_is x is within new.targets new.are events d apart (inl into),
        less_after_ties f x y (length new.targets) within refl
            (ties_size f g f_is g_is x is within new.targets new.are events)
            (few_common f g p.one p.other new.targets f_is new.are)
            (search_ties_fewer f g f_is g_is x is within new.targets new.are events d apart (inl into)),
      )

  goes_on : (x : Search) → IsSearching f g x → x.done < length x.pairs → Answered ⊎ GoesOn x
  goes_on x is within = elim (cases_eq (one_class x) (other_class x)) [
    | inl same ↦ inr (
      record { pairs = x.pairs; done = x.done + 1; classes = x.classes },
      search_skips f g f_is g_is x is within same,
      less_after_skip f x within,
    )
    | inr apart ↦ (
        let p : Pair = pair_at x.pairs x.done in
        let found = first_apart f g p.one p.other f_is g_is in
        by found.0 found.1 apart)
  ]
    where
      by : (found : Option Event)
          → IsFirstApartOrNone f g (pair_at x.pairs x.done).one (pair_at x.pairs x.done).other found
          → one_class x ≢ other_class x → Answered ⊎ GoesOn x
      by None events apart = inr (ties_on x is within apart events)
      by (Some e) first apart = inl (
        Some (record {
          walk = walk_at is.walks x.done;
          event = e;
          one = (pair_at x.pairs x.done).one;
          other = (pair_at x.pairs x.done).other;
        }),
        search_finds f g f_is g_is f_one g_one x is within (walk_at is.walks x.done) e refl first,
      )

  answered_from : (n : ℕ) (x : Search) → IsSearching f g x → work_left f x ≤ n → Answered
  answered_from zero x is few = elim (cases_lt x.done (length x.pairs)) [
    | inl within ↦ absurd (omega (arith, few))
    | inr ended ↦ (None, search_ends f g f_is g_is f_one g_one x is ended)
  ]
  answered_from (suc n) x is few = elim (cases_lt x.done (length x.pairs)) [
    | inl within ↦ elim (goes_on x is within) [
      | inl answer ↦ answer
      | inr next ↦ answered_from n next.0 next.1 (omega (arith, next.2, few))
    ]
    | inr ended ↦ (None, search_ends f g f_is g_is f_one g_one x is ended)
  ]

  pub some_answer : Answered
  some_answer =
      let c : Classes = record { count = f.states + g.states; class = λ z. z } in
      let pairs : List Pair = record { one = f.start; other = g.start; last = None } ∷ [] in
      let x : Search = record { pairs = pairs; done = 0; classes = c } in
      answered_from (work_left f x) x (search_starts f g pairs c refl refl (λ z. refl)) (omega arith)
