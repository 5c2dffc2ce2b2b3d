-- A set of states that can be decided has a list and marks, and so has what is reached in it along arcs.
use Rattle.std.proofs.Common.{◌≡◌, ◌≢◌, ℕ, zero, suc, ◌+◌, ◌<◌, ◌↔◌, ◌∙◌, Bool, true, false, not, cond, List}
use Rattle.std.proofs.Common.{◌++◌, map, filter, length, get_or, set, Contains, refl, sym, ap, subst, arith, inl}
use Rattle.std.proofs.Common.{inr, length-set, nat_cmp}
use Rattle.std.specs.List.{range_with_len}
use Rattle.std.specs.List.Sorted.{IsStrictlySortedBy}
use Rattle.std.proofs.lemmas.Bool.{cases_Bool, cases_eq, true≢false}
use Rattle.std.proofs.lemmas.List.Elements.{Contains-append_left, Contains-append_right, Contains-append_cases}
use Rattle.std.proofs.lemmas.List.FromFn.{length-range_with_len, get_or-range_with_len, length-map-range_with_len}
use Rattle.std.proofs.lemmas.List.FromFn.{get_or-map-range_with_len}
use Rattle.std.proofs.lemmas.List.Kept.{IsStrictlySortedBy-filter}
use Rattle.std.proofs.lemmas.List.Sums.{sum_by-set}
use Rattle.std.proofs.lemmas.Map.Keys.{sorted_from_strictly_increasing}
use Rattle.si_base.specs.declared.ids.Event.{Event}
use Rattle.si_base.specs.declared.graph.Edge.{Edge}
use Rattle.si_base.specs.Graph.{StateGraph, Step, arc, same_event}
use Rattle.si_base.proofs.GraphSteps.{same_event-true, same_event-refl}
use Rattle.si_graph.specs.declared.closure.Along.{Along}
use Rattle.si_graph.specs.declared.closure.Along.TheVariants.{Out, OutWithout, In, Both}
use Rattle.si_graph.specs.Closure.{IsBeside, IsNext, Leads}
use Rattle.si_base.specs.Sets.{IsIn}
use Rattle.si_graph.specs.Loops.Reach.{unmarked}
use Rattle.si_graph.proofs.SearchLemmas.{stays_in, in_cases, in_below}
use Rattle.si_graph.proofs.ListMembers.{Contains-nil, Contains-map}
use Rattle.si_graph.proofs.ListMembers.{Contains-from_map, Contains-filter, Contains-from_filter}
use Rattle.si_checks.proofs.SearchDecisions.{Decided, both, same_value, some_of}
use Rattle.si_regions.specs.Regions.{IsSetOf}
use Rattle.si_regions.specs.Loops.Searching.{AreMarksOf, IsReachedIn, IsSeed}
use Rattle.si_graph.proofs.ClosureLemmas.{reached_on, reached_seed}
use Rattle.si_regions.proofs.SearchLemmas.{search_finds}

pub listed : (xs : List ℕ) (s : ℕ) → Decided (Contains xs s)
listed xs s = elim (some_of (λ x. x ≡ s) (λ x. cases_eq x s) xs) [
  | inl (x, there, same) ↦ inl (subst (Contains xs) same there)
  | inr none ↦ inr (λ there. none (s, there, refl))
]

holds : {P : Type 0} → Decided P → Bool
holds (inl is) = true
holds (inr none) = false

holds_true : {P : Type 0} (d : Decided P) → (holds d ≡ true) ↔ P
unfolding holds
holds_true (inl is) = ((λ same. is), (λ here. refl))
holds_true (inr none) = ((λ same. absurd (true≢false (sym same))), (λ here. absurd (none here)))

-- ---- the numbers below n
numbers : ℕ → List ℕ
numbers n = range_with_len 0 n

numbers_rise : (n : ℕ) → IsStrictlySortedBy nat_cmp (numbers n)
unfolding numbers
numbers_rise n = sorted_from_strictly_increasing (range_with_len 0 n) (λ k within. (
    let size = length-range_with_len 0 n in
    let here = get_or-range_with_len 0 n k 0 (omega arith) in
    let next = get_or-range_with_len 0 n (k + 1) 0 (omega arith) in
    omega (arith, here, next)))

number_there : (n s : ℕ) → s < n → Contains (numbers n) s
unfolding numbers
number_there n s within =
    let size = length-range_with_len 0 n in
    let at = get_or-range_with_len 0 n s s within in
    (s, omega arith, at ∙ omega arith)

-- ---- decided sets
module _ (g : StateGraph) (P : ℕ → Type 0) (decided : (s : ℕ) → Decided (P s))
    (inside : (s : ℕ) → P s → s < g.states) where
  has : ℕ → Bool
  has s = holds (decided s)

  pub some_set : (states : List ℕ) × IsSetOf P states
  unfolding has
  some_set = (
    filter has (numbers g.states),
    record {
      in_order = IsStrictlySortedBy-filter nat_cmp has (numbers g.states) (numbers_rise g.states);
      exactly = λ s. (
        λ there. (holds_true (decided s)).0 (Contains-from_filter has (numbers g.states) s there).1,
        λ is. Contains-filter has (numbers g.states) s (number_there g.states s (inside s is))
            ((holds_true (decided s)).1 is),
      );
    },
  )

  mark_is : (s : ℕ) → s < g.states → get_or (map has (range_with_len 0 g.states)) s false ≡ has s
  mark_is s within = get_or-map-range_with_len has 0 g.states s s false within (omega arith)

  pub some_marks : (marks : List Bool) × AreMarksOf g P marks
  unfolding has
  some_marks = (
    map has (range_with_len 0 g.states),
    record {
      size = size;
      exactly = λ s. (
        λ is. (
            let within : s < g.states = omega (arith, in_below (map has (range_with_len 0 g.states)) s is, size) in
            (holds_true (decided s)).0 (sym (mark_is s within) ∙ is)),
        λ is. mark_is s (inside s is) ∙ (holds_true (decided s)).1 is,
      );
    },
  )
    where
      size : length (map has (range_with_len 0 g.states)) ≡ g.states
      size = length-map-range_with_len has 0 g.states

-- ---- states beside one another
out_of : Edge → ℕ × ℕ
out_of a = (a.from, a.to)

into : Edge → ℕ × ℕ
into a = (a.to, a.from)

is_other : Event → Edge → Bool
is_other stop a = not (same_event a.event stop)

other_passes : (stop : Event) (a : Edge) → a.event ≢ stop → is_other stop a ≡ true
unfolding is_other
other_passes stop a apart = elim (cases_Bool (same_event a.event stop)) [
  | inl same ↦ absurd (apart (same_event-true a.event stop same))
  | inr other ↦ ap not other
]

passed_is_other : (stop : Event) (a : Edge) → is_other stop a ≡ true → a.event ≢ stop
unfolding is_other
passed_is_other stop a passes same =
    let stops : same_event a.event stop ≡ true = ap (λ (e : Event). same_event e stop) same ∙ same_event-refl stop in
    true≢false (sym passes ∙ ap not stops)

pairs_along : Along → List Edge → List (ℕ × ℕ)
pairs_along Out arcs = map out_of arcs
pairs_along (OutWithout stop) arcs = map out_of (filter (is_other stop) arcs)
pairs_along In arcs = map into arcs
pairs_along Both arcs = map out_of arcs ++ map into arcs

module _ (g : StateGraph) where
  out_pair : (s t : ℕ) → Leads g s t → Contains (map out_of g.edges) (s, t)
  unfolding out_of
  out_pair s t (e, step) = Contains-map out_of g.edges (arc s e t) step

  in_pair : (s t : ℕ) → Leads g t s → Contains (map into g.edges) (s, t)
  unfolding into
  in_pair s t (e, step) = Contains-map into g.edges (arc t e s) step

  pair_leads : (p : ℕ × ℕ) → Contains (map out_of g.edges) p → Leads g p.0 p.1
  unfolding out_of
  pair_leads p there =
      let a = Contains-from_map out_of g.edges p there in
      subst (λ (q : ℕ × ℕ). Leads g q.0 q.1) a.2 (a.0.event, a.1)

  pair_comes : (p : ℕ × ℕ) → Contains (map into g.edges) p → Leads g p.1 p.0
  unfolding into
  pair_comes p there =
      let a = Contains-from_map into g.edges p there in
      subst (λ (q : ℕ × ℕ). Leads g q.1 q.0) a.2 (a.0.event, a.1)

  other_pair : (stop : Event) (s t : ℕ) (e : Event) → e ≢ stop → Step g s e t
      → Contains (map out_of (filter (is_other stop) g.edges)) (s, t)
  unfolding out_of
  other_pair stop s t e apart step = Contains-map out_of (filter (is_other stop) g.edges) (arc s e t)
      (Contains-filter (is_other stop) g.edges (arc s e t) step (other_passes stop (arc s e t) apart))

  other_leads : (stop : Event) (p : ℕ × ℕ) → Contains (map out_of (filter (is_other stop) g.edges)) p
      → IsBeside g (OutWithout stop) p.0 p.1
  unfolding out_of
  other_leads stop p there =
      let a = Contains-from_map out_of (filter (is_other stop) g.edges) p there in
      let kept = Contains-from_filter (is_other stop) g.edges a.0 a.1 in
      subst (λ (q : ℕ × ℕ). IsBeside g (OutWithout stop) q.0 q.1) a.2
      (a.0.event, passed_is_other stop a.0 kept.1, kept.0)

  pair_there : (along : Along) (s t : ℕ) → IsBeside g along s t → Contains (pairs_along along g.edges) (s, t)
  unfolding pairs_along
  pair_there Out s t beside = out_pair s t beside
  pair_there (OutWithout stop) s t (e, apart, step) = other_pair stop s t e apart step
  pair_there In s t beside = in_pair s t beside
  pair_there Both s t (inl beside) =
      Contains-append_left (map out_of g.edges) (map into g.edges) (s, t) (out_pair s t beside)
  pair_there Both s t (inr beside) =
      Contains-append_right (map out_of g.edges) (map into g.edges) (s, t) (in_pair s t beside)

  pair_beside : (along : Along) (p : ℕ × ℕ) → Contains (pairs_along along g.edges) p → IsBeside g along p.0 p.1
  unfolding pairs_along
  pair_beside Out p there = pair_leads p there
  pair_beside (OutWithout stop) p there = other_leads stop p there
  pair_beside In p there = pair_comes p there
  pair_beside Both p there = elim (Contains-append_cases (map out_of g.edges) (map into g.edges) p there) [
    | inl first ↦ inl (pair_leads p first)
    | inr later ↦ inr (pair_comes p later)
  ]

-- ---- what is reached
-- the pair leads out of the marked states, to another state of the set
abbrev Leaves : List Bool → List Bool → ℕ × ℕ → Type 0
Leaves within marks p = IsIn marks p.0 × (IsIn within p.1 × (get_or marks p.1 false ≡ false))

leaves : (within marks : List Bool) (p : ℕ × ℕ) → Decided (Leaves within marks p)
leaves within marks p = both (same_value (get_or marks p.0 false) true)
    (both (same_value (get_or within p.1 false) true) (same_value (get_or marks p.1 false) false))

module _ (g : StateGraph) (along : Along) (within : List Bool) (seeds : List ℕ)
    (states : length within ≡ g.states) where
  -- marks of states that are reached, the seeds among them
  record AreReached (marks : List Bool) : Type 0 where
    size : length marks ≡ g.states
    begun : (t : ℕ) → IsSeed within seeds t → IsIn marks t
    sound : (t : ℕ) → IsIn marks t → IsReachedIn g along within seeds t

  pairs : List (ℕ × ℕ)
  pairs = pairs_along along g.edges

  inside : (t : ℕ) → IsIn within t → t < g.states
  inside t is = omega (arith, in_below within t is, states)

  reach_more : (marks : List Bool) → AreReached marks → (p : ℕ × ℕ) → Contains pairs p → Leaves within marks p
      → AreReached (set marks p.1 true)
  unfolding pairs
  reach_more marks are p there out =
      let below : p.1 < length marks = omega (arith, are.size, inside p.1 out.1.0) in
      let next : IsNext g along within p.0 p.1 = (pair_beside g along p there, out.1.0) in
      record {
        size = length-set marks p.1 true ∙ are.size;
        begun = λ t seed. stays_in marks p.1 t below (are.begun t seed);
        sound = λ t is. elim (in_cases marks p.1 t is) [
          | inl same ↦ subst (IsReachedIn g along within seeds) (sym same)
              (reached_on (IsNext g along within) (IsSeed within seeds) p.0 p.1 (are.sound p.0 out.0) next)
          | inr old ↦ are.sound t old
        ];
      }

  fewer : (marks : List Bool) → AreReached marks → (p : ℕ × ℕ) → Leaves within marks p
      → unmarked (set marks p.1 true) < unmarked marks
  fewer marks are p out =
      let below : p.1 < length marks = omega (arith, are.size, inside p.1 out.1.0) in
      omega (arith, rw out.1.1 at (sum_by-set (λ x. cond (not x) 1 0) marks p.1 true false below))

  all_reached : (marks : List Bool) → AreReached marks → ((p : ℕ × ℕ) × Contains pairs p × Leaves within marks p → ⊥)
      → (states : List ℕ) × IsSetOf (IsReachedIn g along within seeds) states
  unfolding pairs
  all_reached marks are none =
      let marked = some_set g (IsIn marks) (λ s. same_value (get_or marks s false) true)
      (λ s is. omega (arith, in_below marks s is, are.size)) in (
        marked.0,
        search_finds g along within seeds marks marked.0 marked.0
            (record {
              begun = are.begun;
              sound = are.sound;
              closed = λ s is. inr (λ t next. elim (cases_Bool (get_or marks t false)) [
                | inl here ↦ here
                | inr missing ↦ absurd (none ((s, t), pair_there g along s t next.0, (is, (next.1, missing))))
              ]);
              queued = λ t waits. absurd (Contains-nil t waits);
            })
            (λ t. (
              λ is. inl ((marked.1.exactly t).1 is),
              λ found. elim found [
                | inl there ↦ (marked.1.exactly t).0 there
                | inr waits ↦ absurd (Contains-nil t waits)
              ],
            ))
            (λ t. ((λ there. there), (λ there. there)))
            marked.1.in_order,
      )

  spread : (n : ℕ) (marks : List Bool) → unmarked marks < n → AreReached marks
      → (states : List ℕ) × IsSetOf (IsReachedIn g along within seeds) states
  spread zero marks below are = absurd (omega arith)
  spread (suc n) marks below are = elim (some_of (Leaves within marks) (leaves within marks) pairs) [
    | inl found ↦ spread n (set marks found.0.1 true) (omega (arith, fewer marks are found.0 found.2))
        (reach_more marks are found.0 found.1 found.2)
    | inr none ↦ all_reached marks are none
  ]

  seed_or_not : (s : ℕ) → Decided (IsSeed within seeds s)
  seed_or_not s = both (listed seeds s) (same_value (get_or within s false) true)

  pub some_reached : (states : List ℕ) × IsSetOf (IsReachedIn g along within seeds) states
  some_reached =
      let first = some_marks g (IsSeed within seeds) seed_or_not (λ s seed. inside s seed.1) in
      spread (unmarked first.0 + 1) first.0 (omega arith) (record {
        size = first.1.size;
        begun = λ t seed. (first.1.exactly t).1 seed;
        sound = λ t is. reached_seed (IsNext g along within) (IsSeed within seeds) t ((first.1.exactly t).0 is);
      })
