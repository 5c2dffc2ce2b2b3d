-- The first paths: that there is one at most, and that in a deterministic graph their events are the first walks.
use Rattle.std.proofs.Common.{◌≡◌, ℕ, zero, suc, ◌<◌, ◌≤◌, List, [], ◌∷◌, length, map, Contains, refl, sym, ap, ap₂}
use Rattle.std.proofs.Common.{subst, ◌∙◌, arith, inl, inr, Option, Some, None}
use Rattle.std.proofs.lemmas.Bool.{cases_order, cases_eq, cases_lt}
use Rattle.std.proofs.lemmas.List.{length-map}
use Rattle.si_base.specs.declared.ids.Event.{Event}
use Rattle.si_base.specs.declared.graph.Edge.{Edge}
use Rattle.si_base.specs.Graph.{StateGraph, Step, arc, event_place}
use Rattle.si_base.specs.Codes.{IsConnected, IsDeterministic}
use Rattle.si_base.specs.Order.{Before}
use Rattle.si_base.proofs.OrderLemmas.{before_apart, before_itself}
use Rattle.si_graph.proofs.OrderLemmas.{event_from_place}
use Rattle.si_graph.proofs.ListMembers.{Contains-here, Contains-there, Contains-map}
use Rattle.si_checks.specs.Loops.Searches.{IsFirstOrNone}
use Rattle.si_checks.proofs.SearchDecisions.{Decided, both, equal_events, some_of, pairs, in_pairs, first_candidate}
use Rattle.si_checks.proofs.SearchFirst.{firsts_at_one_place}
use Rattle.si_walks.proofs.FirstWalks.{along_all}
use Rattle.si_walks.specs.Paths.{IsPath, IsFirstPath, IsWayTo, events_of, path_place, path_steps}
use Rattle.si_walks.specs.Walks.{WalkAlong, IsFirstWalk, walk_place}
use Rattle.si_walks.specs.declared.arcs.Arcs.TheVariants.{All}
use Rattle.si_walks.specs.Loops.Growing.{ComesBefore, IsNoLater}

-- ---- one at most
-- paths from one state with the same events and states are the same
same_path : (g : StateGraph) (s t u : ℕ) (ps bs : List Edge) → IsPath g s ps t → IsPath g s bs u
    → path_steps ps ≡ path_steps bs → ps ≡ bs
same_path g s t u [] [] one other same = refl
same_path g s t u [] (b ∷ bs) one other same = cc
same_path g s t u (a ∷ ps) [] one other same = cc
same_path g s t u (a ∷ ps) (b ∷ bs) one other same =
    let place : event_place a.event ≡ event_place b.event = cc in
    let to : a.to ≡ b.to = cc in
    let rest : path_steps ps ≡ path_steps bs = cc in
    let event = event_from_place a.event b.event place in
    let from : a.from ≡ b.from = one.0 ∙ sym other.0 in
    let arcs : a ≡ b = λ i. record { from = from i; event = event i; to = to i } in
    let path = subst (λ (k : ℕ). IsPath g k ps t) to one.2 in
    ap₂ (λ (x : Edge) (xs : List Edge). x ∷ xs) arcs (same_path g b.to t u ps bs path other.2 rest)

same_size : (ps bs : List Edge) → length ps ≡ length bs → length (path_place ps) ≡ length (path_place bs)
same_size [] [] same = refl
same_size [] (b ∷ bs) same = absurd (omega arith)
same_size (a ∷ ps) [] same = absurd (omega arith)
same_size (a ∷ ps) (b ∷ bs) same = let rest = same_size ps bs (omega arith) in omega arith

pub one_first_path : (g : StateGraph) (s : ℕ) (ps bs : List Edge) → IsFirstPath g s ps → IsFirstPath g s bs → ps ≡ bs
one_first_path g s ps bs is also = elim (cases_order (length ps) (length bs)) [
  | inl same ↦ (
      let places = firsts_at_one_place path_place (λ xs. IsPath g g.start xs s) ps bs (same_size ps bs same) is also in
      let rest : path_steps ps ≡ path_steps bs = cc in same_path g g.start s s ps bs is.holds also.holds rest)
  | inr (inl less) ↦ absurd (also.none_before ps is.holds (inl less))
  | inr (inr more) ↦ absurd (is.none_before bs also.holds (inl more))
]

pub one_way_to : (g : StateGraph) (s : ℕ) (es fs : List Event) → IsWayTo g s es → IsWayTo g s fs → es ≡ fs
one_way_to g s es fs is also =
    is.events_are ∙ ap events_of (one_first_path g s is.path also.path is.first also.first) ∙ sym also.events_are

-- a path that comes no later than each is the first
pub first_of_all : (g : StateGraph) (s : ℕ) (ps : List Edge) → IsPath g g.start ps s
    → ((bs : List Edge) → IsPath g g.start bs s → IsNoLater ps bs) → IsFirstPath g s ps
first_of_all g s ps path least = record {
  holds = path;
  none_before = λ bs other before. elim (least bs other) [
    | inl same ↦ before_itself (path_place bs) (subst (ComesBefore bs) same before)
    | inr after ↦ before_apart (path_place ps) (path_place bs) after before
  ];
}

-- ---- its events
pub walk_of_path : (g : StateGraph) (s t : ℕ) (ps : List Edge) → IsPath g s ps t → WalkAlong g All s (events_of ps) t
walk_of_path g s t [] path = path
walk_of_path g s t (a ∷ ps) (from, there, path) =
    (a.to, tt, subst (λ (k : ℕ). Step g k a.event a.to) from there, walk_of_path g a.to t ps path)

pub path_of_walk : (g : StateGraph) (s t : ℕ) (es : List Event) → WalkAlong g All s es t
    → (ps : List Edge) × IsPath g s ps t × (events_of ps ≡ es)
path_of_walk g s t [] walk = ([], walk, refl)
path_of_walk g s t (e ∷ es) (u, takes, step, walk) =
    let rest = path_of_walk g u t es walk in
    (arc s e u ∷ rest.0, (refl, step, rest.1), ap (λ (l : List Event). e ∷ l) rest.2)

-- in a deterministic graph paths whose events come first come first
steps : (g : StateGraph) (s k : ℕ) (bs ps : List Edge) → IsDeterministic g → IsPath g k bs s → IsPath g k ps s
    → Before (map event_place (events_of bs)) (map event_place (events_of ps))
    → Before (path_steps bs) (path_steps ps)
steps g s k [] ps one other path before = absurd before
steps g s k (b ∷ bs) [] one other path before = absurd before
steps g s k (b ∷ bs) (a ∷ ps) one other path (inl less) = inl less
steps g s k (b ∷ bs) (a ∷ ps) one other path (inr (place, rest)) =
    let event = event_from_place b.event a.event place in
    let step = subst (λ (j : ℕ). Step g j a.event a.to) path.0 path.1 in
    let also = subst (λ (j : ℕ). Step g j a.event b.to) other.0
    (subst (λ e. Step g b.from e b.to) event other.1) in
    let to : b.to ≡ a.to = one k a.event b.to a.to also step in
    inr (place, inr (to, steps g s a.to bs ps one (subst (λ (j : ℕ). IsPath g j bs s) to other.2) path.2 rest))

pub way_is_first_walk : (g : StateGraph) (s : ℕ) (es : List Event) → IsDeterministic g → IsWayTo g s es
    → IsFirstWalk g All g.start s es
way_is_first_walk g s es one is = subst (IsFirstWalk g All g.start s) (sym is.events_are) (record {
  holds = walk_of_path g g.start s is.path is.first.holds;
  none_before = none;
})
  where
    none : (fs : List Event) → WalkAlong g All g.start fs s
        → Before (walk_place fs) (walk_place (events_of is.path)) → ⊥
    none fs walk before =
        let other = path_of_walk g g.start s fs walk in
        let events = subst (λ l. Before (walk_place l) (walk_place (events_of is.path))) (sym other.2) before in
        is.first.none_before other.0 other.1 (places other.0 other.1 events)
      where
        places : (bs : List Edge) → IsPath g g.start bs s
            → Before (walk_place (events_of bs)) (walk_place (events_of is.path)) → ComesBefore bs is.path
        places bs path (inl less) = inl (omega (
          arith,
          length-map bs (λ (a : Edge). a.event),
          length-map is.path (λ (a : Edge). a.event),
        ))
        places bs path (inr (size, rest)) = inr (
          omega (arith, length-map bs (λ (a : Edge). a.event), length-map is.path (λ (a : Edge). a.event)),
          steps g s g.start bs is.path one path is.first.holds rest,
        )

-- ---- some first path
module _ (g : StateGraph) where
  same_arc : (a b : Edge) → Decided (a ≡ b)
  same_arc a b = elim (both (same_number a.from b.from) (both (equal_events a.event b.event)
      (same_number a.to b.to))) [
        | inl (from, (event, to)) ↦ inl (λ i. record { from = from i; event = event i; to = to i })
        | inr apart ↦ inr (λ same. apart (
          ap (λ (x : Edge). x.from) same,
          (ap (λ (x : Edge). x.event) same, ap (λ (x : Edge). x.to) same),
        ))
      ]
    where
      same_number : (m n : ℕ) → Decided (m ≡ n)
      same_number m n = elim (cases_eq m n) [ inl same ↦ inl same | inr other ↦ inr other ]

  in_arcs : (a : Edge) → Decided (Contains g.edges a)
  in_arcs a = elim (some_of (λ (b : Edge). b ≡ a) (λ b. same_arc b a) g.edges) [
    | inl (b, there, same) ↦ inl (subst (Contains g.edges) same there)
    | inr none ↦ inr (λ there. none (a, there, refl))
  ]

  path_decided : (ps : List Edge) (s t : ℕ) → Decided (IsPath g s ps t)
  path_decided [] s t = elim (cases_eq s t) [ inl same ↦ inl same | inr other ↦ inr other ]
  path_decided (a ∷ ps) s t = elim (cases_eq a.from s) [
    | inr other ↦ inr (λ (from, there, rest). other from)
    | inl from ↦ elim (both (in_arcs a) (path_decided ps a.to t)) [
      | inl (there, rest) ↦ inl (from, there, rest)
      | inr not_so ↦ inr (λ (also, there, rest). not_so (there, rest))
    ]
  ]

  -- all lists of so many arcs at most
  up_to : ℕ → List (List Edge)
  up_to zero = [] ∷ []
  up_to (suc n) = [] ∷ map (λ p. p.0 ∷ p.1) (pairs g.edges (up_to n))

  in_up_to : (n : ℕ) (ps : List Edge) (s t : ℕ) → length ps ≤ n → IsPath g s ps t → Contains (up_to n) ps
  unfolding up_to
  in_up_to zero [] s t few path = Contains-here [] []
  in_up_to zero (a ∷ ps) s t few path = absurd (omega arith)
  in_up_to (suc n) [] s t few path = Contains-here [] (map (λ p. p.0 ∷ p.1) (pairs g.edges (up_to n)))
  in_up_to (suc n) (a ∷ ps) s t few (from, there, path) =
      let put : Edge × List Edge → List Edge = λ p. p.0 ∷ p.1 in
      Contains-there [] (map put (pairs g.edges (up_to n))) (a ∷ ps)
      (Contains-map put (pairs g.edges (up_to n)) (a, ps)
      (in_pairs g.edges (up_to n) a ps there (in_up_to n ps a.to t (omega arith) path)))

  -- a path to s of so many arcs at most
  record IsShort (n s : ℕ) (ps : List Edge) : Type 0 where
    path : IsPath g g.start ps s
    few : length ps ≤ n

  first_short : (n s : ℕ) → (found : Option (List Edge)) × IsFirstOrNone path_place (IsShort n s) found
  first_short n s = first_candidate path_place (IsShort n s) (λ ps. ps) (IsShort n s) decided (up_to n)
      (λ ps there short. short)
      (λ ps short. (ps, in_up_to n ps g.start s short.few short.path, short, refl))
    where
      decided : (ps : List Edge) → Decided (IsShort n s ps)
      decided ps = elim (path_decided ps g.start s) [
        | inr not_so ↦ inr (λ short. not_so short.path)
        | inl path ↦ elim (cases_lt n (length ps)) [
          | inl long ↦ inr (λ short. absurd (omega (arith, short.few)))
          | inr few ↦ inl (record { path = path; few = few })
        ]
      ]

  some_first : (s : ℕ) (bs : List Edge) → IsPath g g.start bs s → (found : Option (List Edge))
      → IsFirstOrNone path_place (IsShort (length bs) s) found → (ps : List Edge) × IsFirstPath g s ps
  some_first s bs path None none = absurd (none bs (record { path = path; few = omega arith }))
  some_first s bs path (Some ps) is = (
    ps,
    record {
      holds = is.holds.path;
      none_before = λ cs other before. is.none_before cs
          (record { path = other; few = no_longer cs other before }) before;
    },
  )
    where
      no_longer : (cs : List Edge) → IsPath g g.start cs s → ComesBefore cs ps → length cs ≤ length bs
      no_longer cs other (inl less) = omega (arith, is.holds.few)
      no_longer cs other (inr (same, rest)) = omega (arith, is.holds.few)

  pub some_way_to : IsConnected g → (s : ℕ) → s < g.states → (es : List Event) × IsWayTo g s es
  some_way_to connected s within =
      let walk = connected s within in
      let path = path_of_walk g g.start s walk.0 (along_all g g.start walk.0 s walk.1) in
      let short = first_short (length path.0) s in
      let first = some_first s path.0 path.1 short.0 short.1 in
      (events_of first.0, record { path = first.0; first = first.1; events_are = refl })
