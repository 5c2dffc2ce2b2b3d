-- The first walks from a state to another: which arc begins one, that there is one at most, and
-- one where any walk leads there.
use Rattle.std.proofs.Common.{◌≡◌, ℕ, zero, suc, ◌+◌, ◌<◌, ◌≤◌, ◌⊎◌, sym, refl, ap, ap₂, subst, arith, List, [], ◌∷◌}
use Rattle.std.proofs.Common.{length, map, Contains, inl, inr, Option, Some, None}
use Rattle.std.proofs.lemmas.Bool.{cases_order, cases_lt, cases_eq}
use Rattle.si_base.specs.declared.ids.Event.{Event}
use Rattle.si_base.specs.declared.graph.Edge.{Edge}
use Rattle.si_base.specs.Graph.{StateGraph, Step, arc, event_place, Walk}
use Rattle.si_base.specs.Codes.{IsDeterministic}
use Rattle.si_base.specs.Order.{Before}
use Rattle.si_graph.proofs.OrderLemmas.{event_from_place}
use Rattle.si_checks.specs.Loops.Searches.{IsFirstOrNone}
use Rattle.si_checks.proofs.SearchFirst.{firsts_at_one_place}
use Rattle.si_checks.proofs.SearchDecisions.{Decided, both, first_candidate}
use Rattle.si_walks.specs.declared.arcs.Arcs.{Arcs}
use Rattle.si_walks.specs.declared.arcs.Arcs.TheVariants.{All}
use Rattle.si_walks.specs.Walks.{Takes, WalkAlong, LeadsAlong, walk_place, IsFirstWalk}
use Rattle.si_walks.proofs.WalkEvents.{taken}

-- ---- walks along all arcs
pub along_all : (g : StateGraph) (s : ℕ) (es : List Event) (t : ℕ) → Walk g s es t → WalkAlong g All s es t
along_all g s [] t walk = walk
along_all g s (e ∷ es) t (u, step, walk) = (u, tt, step, along_all g u es t walk)

-- ---- one first walk at most
same_events : (es fs : List Event) → map event_place es ≡ map event_place fs → es ≡ fs
same_events [] [] same = refl
same_events [] (f ∷ fs) same = cc
same_events (e ∷ es) [] same = cc
same_events (e ∷ es) (f ∷ fs) same =
    let head : event_place e ≡ event_place f = cc in
    let rest : map event_place es ≡ map event_place fs = cc in
    ap₂ (λ (x : Event) (xs : List Event). x ∷ xs) (event_from_place e f head) (same_events es fs rest)

same_size : (es fs : List Event) → length es ≡ length fs → length (walk_place es) ≡ length (walk_place fs)
same_size [] [] same = refl
same_size [] (f ∷ fs) same = absurd (omega arith)
same_size (e ∷ es) [] same = absurd (omega arith)
same_size (e ∷ es) (f ∷ fs) same = ap suc (same_size es fs (omega arith))

pub one_first_walk : (g : StateGraph) (arcs : Arcs) (s t : ℕ) (es fs : List Event) → IsFirstWalk g arcs s t es
    → IsFirstWalk g arcs s t fs → es ≡ fs
one_first_walk g arcs s t es fs is also = elim (cases_order (length es) (length fs)) [
  | inl same ↦ (
      let sizes = same_size es fs same in
      let places = firsts_at_one_place walk_place (λ xs. WalkAlong g arcs s xs t) es fs sizes is also in
      let rest : map event_place es ≡ map event_place fs = cc in same_events es fs rest)
  | inr (inl less) ↦ absurd (also.none_before es is.holds (inl less))
  | inr (inr more) ↦ absurd (is.none_before fs also.holds (inl more))
]

-- ---- how a first walk begins
-- no walk from s is shorter
abbrev pub IsAtLeast : StateGraph → Arcs → ℕ → ℕ → ℕ → Type 0
IsAtLeast g arcs s t n = (fs : List Event) → WalkAlong g arcs s fs t → n ≤ length fs

-- a walk of so many events leads from s
abbrev pub HasLength : StateGraph → Arcs → ℕ → ℕ → ℕ → Type 0
HasLength g arcs s t n = (es : List Event) × (length es ≡ n) × WalkAlong g arcs s es t

pub first_stay : (g : StateGraph) (arcs : Arcs) (t : ℕ) → IsFirstWalk g arcs t t []
first_stay g arcs t = record {
  holds = refl;
  none_before = λ fs walk before. elim before [
    | inl less ↦ absurd (omega arith)
    | inr tied ↦ none fs tied.1
  ];
}
  where
    none : (fs : List Event) → Before (map event_place fs) [] → ⊥
    none [] before = before
    none (f ∷ fs) before = before

-- an arc by e to u, where no arc by an earlier event leads to a state from which as few lead on
pub first_step : (g : StateGraph) (arcs : Arcs) (s t n : ℕ) (e : Event) (u : ℕ) (rest : List Event)
    → IsDeterministic g → Takes g arcs e → Step g s e u → length rest ≡ n → IsFirstWalk g arcs u t rest
    → IsAtLeast g arcs s t (n + 1)
    → ((f : Event) (w : ℕ) → Takes g arcs f → Step g s f w → HasLength g arcs w t n → event_place e ≤ event_place f)
    → IsFirstWalk g arcs s t (e ∷ rest)
first_step g arcs s t n e u rest one takes step size is least earliest = record {
  holds = (u, takes, step, is.holds);
  none_before = later;
}
  where
    later : (fs : List Event) → WalkAlong g arcs s fs t → Before (walk_place fs) (walk_place (e ∷ rest)) → ⊥
    later [] walk before = let few = least [] walk in absurd (omega arith)
    later (f ∷ fs) walk (inl less) = let few = least (f ∷ fs) walk in absurd (omega (arith, size))
    later (f ∷ fs) (w, also, there, walk) (inr (as_long, (inl less))) =
        let early = earliest f w also there (fs, omega (arith, as_long, size), walk) in absurd (omega arith)
    later (f ∷ fs) (w, also, there, walk) (inr (as_long, (inr tied))) =
        let same : f ≡ e = event_from_place f e tied.0 in
        let state : w ≡ u = one s e w u (subst (λ (x : Event). Step g s x w) same there) step in
        is.none_before fs (subst (λ (x : ℕ). WalkAlong g arcs x fs t) state walk) (inr (omega arith, tied.1))

-- ---- some first walk
pub step_of : (g : StateGraph) (s : ℕ) (a : Edge) → a.from ≡ s → Contains g.edges a → Step g s a.event a.to
step_of g s a from there =
    let whole : a ≡ arc s a.event a.to = λ i. record { from = from i; event = a.event; to = a.to } in
    subst (λ (x : Edge). Contains g.edges x) whole there

module _ (g : StateGraph) (arcs : Arcs) (t : ℕ) where
  -- an arc from s of that kind to a state from which a walk of n events leads
  abbrev Begins : ℕ → ℕ → Edge → Type 0
  Begins s n a = (a.from ≡ s) × (Takes g arcs a.event × HasLength g arcs a.to t n)

  record BeginsIn (s n : ℕ) (a : Edge) : Type 0 where
    there : Contains g.edges a
    begins : Begins s n a

  abbrev beginning : Edge → List ℕ
  beginning a = event_place a.event ∷ []

  same_number : (m n : ℕ) → Decided (m ≡ n)
  same_number m n = elim (cases_eq m n) [ inl same ↦ inl same | inr other ↦ inr other ]

  -- the first arc that begins a walk of n + 1 events, where walks of n events are decided
  first_arc : (n : ℕ) → ((s : ℕ) → Decided (HasLength g arcs s t n)) → (s : ℕ)
      → (found : Option Edge) × IsFirstOrNone beginning (BeginsIn s n) found
  first_arc n decided s =
      first_candidate beginning (BeginsIn s n) (λ a. a) (Begins s n)
      (λ a. both (same_number a.from s) (both (taken g arcs a.event) (decided a.to))) g.edges
      (λ a there begins. record { there = there; begins = begins })
      (λ a is. (a, is.there, is.begins, refl))

  mutual_length : (n : ℕ) (s : ℕ) → Decided (HasLength g arcs s t n)
  mutual_length zero s = elim (cases_eq s t) [
    | inl same ↦ inl ([], refl, same)
    | inr other ↦ inr (λ has. other (stays has.0 has.1 has.2))
  ]
    where
      stays : (es : List Event) → length es ≡ 0 → WalkAlong g arcs s es t → s ≡ t
      stays [] size walk = walk
      stays (e ∷ es) size walk = absurd (omega arith)
  mutual_length (suc n) s =
      let found = first_arc n (mutual_length n) s in by found.0 found.1
    where
      by : (found : Option Edge) → IsFirstOrNone beginning (BeginsIn s n) found → Decided (HasLength g arcs s t (suc n))
      by None none = inr (λ has. without has.0 has.1 has.2)
        where
          without : (es : List Event) → length es ≡ suc n → WalkAlong g arcs s es t → ⊥
          without [] size walk = absurd (omega arith)
          without (e ∷ es) size (u, takes, step, walk) =
              none (arc s e u) (record { there = step; begins = (refl, (takes, (es, omega arith, walk))) })
      by (Some a) is =
          let b = is.holds.begins in
          let rest = b.1.1 in
          inl (a.event ∷ rest.0, ap suc rest.1, (a.to, b.1.0, step_of g s a b.0 is.holds.there, rest.2))

  -- from the start of a walk of n events than which none is shorter
  first_of_length : IsDeterministic g → (n : ℕ) (s : ℕ) → HasLength g arcs s t n → IsAtLeast g arcs s t n
      → (es : List Event) × (length es ≡ n) × IsFirstWalk g arcs s t es
  first_of_length one zero s has least = stay has.0 has.1 has.2
    where
      stay : (es : List Event) → length es ≡ 0 → WalkAlong g arcs s es t
          → (fs : List Event) × (length fs ≡ 0) × IsFirstWalk g arcs s t fs
      stay [] size walk =
          ([], refl, subst (λ (x : ℕ). IsFirstWalk g arcs x t []) (sym walk) (first_stay g arcs t))
      stay (e ∷ es) size walk = absurd (omega arith)
  first_of_length one (suc n) s has least =
      let found = first_arc n (mutual_length n) s in
      by (λ u has_rest long. first_of_length one n u has_rest long) found.0 found.1
    where
      by : ((u : ℕ) → HasLength g arcs u t n → IsAtLeast g arcs u t n
          → (es : List Event) × (length es ≡ n) × IsFirstWalk g arcs u t es)
          → (found : Option Edge) → IsFirstOrNone beginning (BeginsIn s n) found
          → (es : List Event) × (length es ≡ suc n) × IsFirstWalk g arcs s t es
      by shorter None none = absurd (without has.0 has.1 has.2)
        where
          without : (es : List Event) → length es ≡ suc n → WalkAlong g arcs s es t → ⊥
          without [] size walk = absurd (omega arith)
          without (e ∷ es) size (u, takes, step, walk) =
              none (arc s e u) (record { there = step; begins = (refl, (takes, (es, omega arith, walk))) })
      by shorter (Some a) is =
          let b = is.holds.begins in
          let step = step_of g s a b.0 is.holds.there in
          let rest = shorter a.to b.1.1
          (λ fs walk. (let long = least (a.event ∷ fs) (a.to, b.1.0, step, walk) in omega arith)) in (
            a.event ∷ rest.0,
            ap suc rest.1,
            first_step g arcs s t n a.event a.to rest.0 one b.1.0 step rest.1 rest.2
                (λ fs walk. (let long = least fs walk in omega arith))
                (λ f w takes there on. elim (cases_lt (event_place f) (event_place a.event)) [
                  | inl less ↦ absurd (is.none_before (arc s f w)
                      (record { there = there; begins = (refl, (takes, on)) }) (inl less))
                  | inr low ↦ low
                ]),
          )

  -- the length of the shortest
  pub shortest : (s n : ℕ) → ((k : ℕ) → k < n → HasLength g arcs s t k → ⊥)
      ⊎ ((m : ℕ) × HasLength g arcs s t m × ((k : ℕ) → k < m → HasLength g arcs s t k → ⊥))
  shortest s zero = inl (λ k below has. absurd (omega arith))
  shortest s (suc n) = elim (shortest s n) [
    | inr found ↦ inr found
    | inl none ↦ elim (mutual_length n s) [
      | inl has ↦ inr (n, has, none)
      | inr has_not ↦ inl (λ k below has. elim (cases_order k n) [
        | inl same ↦ has_not (subst (λ (j : ℕ). HasLength g arcs s t j) same has)
        | inr (inl less) ↦ none k less has
        | inr (inr more) ↦ absurd (omega arith)
      ])
    ]
  ]

  pub at_least : (s m : ℕ) → ((k : ℕ) → k < m → HasLength g arcs s t k → ⊥) → IsAtLeast g arcs s t m
  at_least s m none fs walk = elim (cases_lt (length fs) m) [
    | inl less ↦ absurd (none (length fs) less (fs, refl, walk))
    | inr low ↦ low
  ]

  pub some_first_walk : IsDeterministic g → (s : ℕ) → LeadsAlong g arcs s t
      → (es : List Event) × IsFirstWalk g arcs s t es
  some_first_walk one s leads = elim (shortest s (length leads.0 + 1)) [
    | inl none ↦ absurd (none (length leads.0) (omega arith) (leads.0, refl, leads.1))
    | inr found ↦ (let first = first_of_length one found.0 s found.1 (at_least s found.0 found.2) in (first.0, first.2))
  ]
