-- Sets made state by state, and regions in order.
use Rattle.std.proofs.Common.{◌≡◌, ℕ, ◌+◌, ◌*◌, ◌<◌, ◌≤◌, Bool, true, false, ◌∙◌, sym, refl, ap, subst, arith, List, []}
use Rattle.std.proofs.Common.{◌∷◌, ◌++◌, length, get_or, set, Contains, IsTrue, inl, inr, ◌⊎◌, ◌↔◌, length-set}
use Rattle.std.proofs.Common.{replicate, nat_cmp}
use Rattle.std.proofs.lemmas.Bool.{cases_eq, cases_lt, true≢false}
use Rattle.std.proofs.lemmas.List.{get_or_default}
use Rattle.std.proofs.lemmas.List.Elements.{Contains-push, Contains-push_cases, Contains-append_left, Contains-get_or}
use Rattle.std.proofs.lemmas.List.Quantifiers.{all_pairs_push}
use Rattle.std.specs.List.Sorted.{IsStrictlySortedBy}
use Rattle.si_base.specs.declared.ids.Event.{Event}
use Rattle.si_base.specs.declared.graph.Edge.{Edge}
use Rattle.si_base.specs.Order.{Before}
use Rattle.si_base.specs.Graph.{StateGraph, Step, IsGraph, arc, enables, event_place, same_event}
use Rattle.si_base.specs.Codes.{CodedGraph, IsDeterministic}
use Rattle.si_base.proofs.StepCodes.{step_within}
use Rattle.si_base.proofs.GraphSteps.{step_from_enables, enables-step, same_event-refl, same_event-true}
use Rattle.si_base.proofs.OrderLemmas.{at_places}
use Rattle.si_base.specs.Sets.{IsIn}
use Rattle.si_graph.proofs.SearchLemmas.{stays_in, in_cases, is_set, in_none}
use Rattle.si_graph.proofs.OrderLemmas.{event_from_place}
use Rattle.si_regions.specs.declared.regions.Region.{Region}
use Rattle.si_regions.specs.Connected.{IsComponent}
use Rattle.si_regions.specs.Regions.{Enables, IsSetOf, IsEntered, IsRegion, least, region_place, AreRegions}
use Rattle.si_regions.specs.Loops.Searching.{AreMarksOf, RegionsTo}
use Rattle.si_regions.proofs.StateLists.{least_is}
use Rattle.si_regions.proofs.UniqueRegions.{one_component}

-- ---- a set made step by step: of what the first k steps add
pub record MadeTo (Q : ℕ → ℕ → Type 0) (n k : ℕ) (marks : List Bool) : Type 0 where
  pub size : length marks ≡ n
  pub exactly : (t : ℕ) → IsIn marks t ↔ ((j : ℕ) × (j < k) × Q j t)

pub made_more : (Q : ℕ → ℕ → Type 0) (n k t : ℕ) (marks : List Bool) → t < n → Q k t
    → ((u : ℕ) → Q k u → u ≡ t) → MadeTo Q n k marks → MadeTo Q n (k + 1) (set marks t true)
made_more Q n k t marks inside here one x = record {
  size = length-set marks t true ∙ x.size;
  exactly = λ u. (
    (λ i. elim (in_cases marks t u i) [
      | inl same ↦ (k, omega arith, subst (λ v. Q k v) (sym same) here)
      | inr old ↦ (let b = (x.exactly u).0 old in (b.0, (let l = b.1 in omega arith), b.2))
    ]),
    (λ b. elim (cases_eq b.0 k) [
      | inl same ↦
          (let is : u ≡ t = one u (subst (λ j. Q j u) same b.2) in
          subst (λ v. IsIn (set marks t true) v) (sym is) (is_set marks t (omega (arith, x.size))))
      | inr other ↦
          stays_in marks t u (omega (arith, x.size))
          ((x.exactly u).1 (b.0, (let l = b.1 in omega (arith, l, other)), b.2))
    ]),
  );
}

pub made_pass : (Q : ℕ → ℕ → Type 0) (n k : ℕ) (marks : List Bool) → ((u : ℕ) → Q k u → ⊥) → MadeTo Q n k marks
    → MadeTo Q n (k + 1) marks
made_pass Q n k marks none x = record {
  size = x.size;
  exactly = λ u. (
    (λ i. (let b = (x.exactly u).0 i in (b.0, (let l = b.1 in omega arith), b.2))),
    (λ b. elim (cases_eq b.0 k) [
      | inl same ↦ absurd (none u (subst (λ j. Q j u) same b.2))
      | inr other ↦ (x.exactly u).1 (b.0, (let l = b.1 in omega (arith, l, other)), b.2)
    ]),
  );
}

-- the k-th arc is by e, out of t
abbrev pub IsArcBy : List Edge → Event → ℕ → ℕ → Type 0
IsArcBy arcs e k t = (a : Edge) × (k < length arcs) × (get_or arcs k a ≡ a) × (a.event ≡ e) × (a.from ≡ t)

module _ (arcs : List Edge) (e : Event) (k : ℕ) (x : Edge) (inside : k < length arcs) (at : x ≡ get_or arcs k x) where
  arc_is : (a : Edge) → get_or arcs k a ≡ a → a ≡ x
  arc_is a is = sym is ∙ get_or_default arcs k a x inside ∙ sym at

  pub enabling_more : (n : ℕ) (marks : List Bool) → x.from < n → same_event x.event e ≡ true
      → MadeTo (IsArcBy arcs e) n k marks → MadeTo (IsArcBy arcs e) n (k + 1) (set marks x.from true)
  enabling_more n marks below same before = made_more (IsArcBy arcs e) n k x.from marks below
      (x, inside, sym at, same_event-true x.event e same, refl)
      (λ u (a, _, is, _, from). sym from ∙ ap (λ (y : Edge). y.from) (arc_is a is)) before

  pub enabling_pass : (n : ℕ) (marks : List Bool) → same_event x.event e ≡ false
      → MadeTo (IsArcBy arcs e) n k marks → MadeTo (IsArcBy arcs e) n (k + 1) marks
  enabling_pass n marks other before = made_pass (IsArcBy arcs e) n k marks (λ u (a, _, is, event, _). (
      let by : x.event ≡ e = ap (λ (y : Edge). y.event) (sym (arc_is a is)) ∙ event in
      true≢false (sym (same_event-refl e) ∙ ap (λ (f : Event). same_event f e) (sym by) ∙ other))) before

pub enabling_all : (g : StateGraph) (e : Event) (k : ℕ) (marks : List Bool) → length g.edges ≤ k
    → MadeTo (IsArcBy g.edges e) g.states k marks → AreMarksOf g (Enables g e) marks
enabling_all g e k marks all x = record {
  size = x.size;
  exactly = λ t. (
    (λ i. (let b = (x.exactly t).0 i in on t b.0 b.2)),
    (λ on. (
        let step = step_from_enables g t e on in
        let place = step.1 in
        (x.exactly t).1 (place.0, (let l = place.1 in omega arith), (arc t e step.0, place.1, place.2, refl, refl)))),
  );
}
  where
    on : (t j : ℕ) → IsArcBy g.edges e j t → IsTrue (enables g t e)
    on t j (a, inside, at, event, from) =
        let make : ℕ → Event → Edge = λ s f. arc s f a.to in
        let is : a ≡ arc t e a.to = λ i. make (from i) (event i) in
        enables-step g t e a.to (subst (λ (x : Edge). Contains g.edges x) is (j, inside, at))

-- the k-th state has P and is t
abbrev pub IsStateOf : (ℕ → Type 0) → ℕ → ℕ → Type 0
IsStateOf P k t = P k × (k ≡ t)

pub states_all : (g : StateGraph) (P : ℕ → Type 0) (k : ℕ) (marks : List Bool) → g.states ≤ k
    → MadeTo (IsStateOf P) g.states k marks → k ≤ g.states → AreMarksOf g (λ t. (t < g.states) × P t) marks
states_all g P k marks all x most = record {
  size = x.size;
  exactly = λ t. (
    (λ i. (let b = (x.exactly t).0 i in (let l = b.1 in omega (arith, b.2.1, most), subst P b.2.1 b.2.0))),
    (λ p. (x.exactly t).1 (t, (let l = p.0 in omega arith), (p.1, refl))),
  );
}

-- ---- what an event enters: from the first n states of a list
abbrev pub AreTargets : StateGraph → List ℕ → Event → ℕ → List ℕ → Type 0
AreTargets g from e n targets = (t : ℕ) → Contains targets t
    ↔ ((j : ℕ) × (s : ℕ) × (j < n) × (j < length from) × (get_or from j s ≡ s) × Step g s e t)

module _ (g : StateGraph) (from : List ℕ) (e : Event) (k s : ℕ) (targets : List ℕ)
    (inside : k < length from) (at : s ≡ get_or from k s) (x : AreTargets g from e k targets) where
  at_place : (j v : ℕ) → j ≡ k → get_or from j v ≡ v → v ≡ s
  at_place j v same is =
      sym (subst (λ i. get_or from i v ≡ v) same is) ∙ get_or_default from k v s inside ∙ sym at

  earlier : (t : ℕ) → ((j : ℕ) × (v : ℕ) × (j < k + 1) × (j < length from) × (get_or from j v ≡ v) × Step g v e t)
      → Contains targets t ⊎ Step g s e t
  earlier t (j, v, below, within, is, step) = elim (cases_eq j k) [
    | inl same ↦ inr (subst (λ u. Step g u e t) (at_place j v same is) step)
    | inr other ↦ inl ((x t).1 (j, v, omega arith, within, is, step))
  ]

  later : (t : ℕ) → Contains targets t
      → (j : ℕ) × (v : ℕ) × (j < k + 1) × (j < length from) × (get_or from j v ≡ v) × Step g v e t
  later t there =
      let b = (x t).0 there in (b.0, b.1, (let l = b.2 in omega arith), b.3, b.4, b.5)

  pub targets_more : (t : ℕ) → IsDeterministic g → Step g s e t → AreTargets g from e (k + 1) (targets ++ t ∷ [])
  targets_more t one step u = (
    λ there. elim (Contains-push_cases targets t u there) [
      | inl old ↦ later u old
      | inr same ↦ (k, s, omega arith, inside, sym at, subst (λ v. Step g s e v) same step)
    ],
    λ found. elim (earlier u found) [
      | inl old ↦ Contains-append_left targets (t ∷ []) u old
      | inr again ↦ subst (λ v. Contains (targets ++ t ∷ []) v) (one s e t u step again) (Contains-push targets t)
    ],
  )

  pub targets_pass : ((u : ℕ) → Step g s e u → ⊥) → AreTargets g from e (k + 1) targets
  targets_pass none u = (
    λ there. later u there,
    λ found. elim (earlier u found) [ inl old ↦ old | inr step ↦ absurd (none u step) ],
  )

pub targets_all : (g : StateGraph) (from : List ℕ) (e : Event) (n : ℕ) (targets list : List ℕ) → length from ≤ n
    → AreTargets g from e n targets → ((t : ℕ) → Contains list t ↔ Contains targets t)
    → IsStrictlySortedBy nat_cmp list → IsSetOf (IsEntered g from e) list
targets_all g from e n targets list all x same order = record {
  in_order = order;
  exactly = λ t. (
    λ there. (let b = (x t).0 ((same t).0 there) in (b.1, (b.0, b.3, b.4), b.5)),
    λ entered. (
        let place = entered.1 in
        (same t).1 ((x t).1 (place.0, entered.0, (let l = place.1 in omega arith), place.1, place.2, entered.2))),
  );
}

-- ---- regions in order
weaker : (a b x y z : ℕ) → y ≤ z → Before (a ∷ b ∷ []) (x ∷ y ∷ []) → Before (a ∷ b ∷ []) (x ∷ z ∷ [])
weaker a b x y z more h = pick (at_places a b x y h)
  where
    pick : (a < x) ⊎ ((a ≡ x) × (b < y)) → Before (a ∷ b ∷ []) (x ∷ z ∷ [])
    pick (inl k) = inl k
    pick (inr k) = inr (k.0, inl (omega (arith, k.1)))

pub regions_none : (c : CodedGraph) → RegionsTo c 0 0 []
regions_none c = record {
  each = λ r there. absurd (omega (arith, there.1));
  all = λ t e on before. absurd (none (event_place e) t (at_places (event_place e) t 0 0 before));
  in_order = λ i j d less within. absurd (omega arith);
}
  where
    none : (a b : ℕ) → (a < 0) ⊎ ((a ≡ 0) × (b < 0)) → ⊥
    none a b (inl h) = omega (arith, h)
    none a b (inr h) = omega (arith, h.1)

-- the states of the event's regions so far
abbrev pub AreDone : Event → List Region → List Bool → Type 0
AreDone e regions done = (t : ℕ) → IsIn done t ↔ ((r : Region) × Contains regions r × (r.event ≡ e) × Contains r.er t)

pub done_none : (c : CodedGraph) (e : Event) (n : ℕ) (regions : List Region) → RegionsTo c (event_place e) 0 regions
    → AreDone e regions (replicate n false)
done_none c e n regions to t = (
  (λ i. absurd (in_none n t i)),
  (λ found. absurd (none found.0 found.2 (at_places (event_place found.0.event) (least found.0.er) (event_place e) 0
      (to.each found.0 found.1).1))),
)
  where
    none : (r : Region) → r.event ≡ e → (event_place r.event < event_place e) ⊎
        ((event_place r.event ≡ event_place e) × (least r.er < 0)) → ⊥
    none r same (inl h) = omega (arith, h, ap event_place same)
    none r same (inr h) = omega (arith, h.1)

pub regions_pass : (c : CodedGraph) (e : Event) (s : ℕ) (regions : List Region) (done : List Bool)
    → AreDone e regions done → (IsTrue (enables c.graph s e) → IsIn done s) → RegionsTo c (event_place e) s regions
    → RegionsTo c (event_place e) (s + 1) regions
regions_pass c e s regions done are stands to = record {
  each = λ r there. (let k = to.each r there in (
    k.0,
    weaker (event_place r.event) (least r.er) (event_place e) s
        (s + 1) (omega arith) k.1,
  ));
  all = λ t f on before. pick t f on (at_places (event_place f) t (event_place e) (s + 1) before) (cases_lt t s);
  in_order = to.in_order;
}
  where
    pick : (t : ℕ) (f : Event) → IsTrue (enables c.graph t f)
        → (event_place f < event_place e) ⊎ ((event_place f ≡ event_place e) × (t < s + 1)) → (t < s) ⊎ (s ≤ t)
        → (r : Region) × Contains regions r × (r.event ≡ f) × Contains r.er t
    pick t f on (inl h) other = to.all t f on (inl h)
    pick t f on (inr h) (inl below) = to.all t f on (inr (h.0, inl below))
    pick t f on (inr h) (inr above) =
        let same : t ≡ s = omega (arith, h.1, above) in
        let event : f ≡ e = event_from_place f e h.0 in
        let on_e : IsTrue (enables c.graph s e) = subst (λ x. IsTrue (enables c.graph x e)) same
        (subst (λ x. IsTrue (enables c.graph t x)) event on) in
        let found = (are s).0 (stands on_e) in
        (found.0, found.1, found.2 ∙ sym event, subst (λ x. Contains found.0.er x) (sym same) found.3)

pub least_new : (c : CodedGraph) (e : Event) (s : ℕ) (regions : List Region) (done : List Bool) (r : Region)
    → AreDone e regions done → (IsIn done s → ⊥) → IsRegion c r → r.event ≡ e → Contains r.er s
    → RegionsTo c (event_place e) s regions → least r.er ≡ s
least_new c e s regions done r are fresh is same here to = least_is r.er s is.excited.in_order here (λ t less there.
    (let on : IsTrue (enables c.graph t e) = subst (λ x. IsTrue (enables c.graph t x)) same (is.excited.members t there)
    in
    let found = to.all t e on (inr (refl, inl less)) in
    let E : Event → Type 0 = λ x. IsComponent c.graph (Enables c.graph x) r.er in
    let F : Event → Type 0 = λ x. IsComponent c.graph (Enables c.graph x) found.0.er in
    let one = one_component c.graph (Enables c.graph e) r.er found.0.er t (subst E same is.excited)
    (subst F found.2 (to.each found.0 found.1).0.excited) there found.3 in
    fresh ((are s).1 (found.0, found.1, found.2, subst (λ x. Contains x s) one here))))

pub regions_more : (c : CodedGraph) (e : Event) (s : ℕ) (regions : List Region) (done : List Bool) (r : Region)
    → AreDone e regions done → (IsIn done s → ⊥) → IsRegion c r → r.event ≡ e → Contains r.er s
    → RegionsTo c (event_place e) s regions → RegionsTo c (event_place e) (s + 1) (regions ++ r ∷ [])
regions_more c e s regions done r are fresh is same here to = record {
  each = λ q there. elim (Contains-push_cases regions r q there) [
    | inl old ↦ (let k = to.each q old in (
      k.0,
      weaker (event_place q.event) (least q.er) (event_place e) s (s + 1)
          (omega arith) k.1,
    ))
    | inr new ↦ subst (λ x. IsRegion c x × Before (region_place x) (event_place e ∷ (s + 1) ∷ [])) new
        (is, inr (ap event_place same, inl (omega (arith, at))))
  ];
  all = λ t f on before. pick t f on (at_places (event_place f) t (event_place e) (s + 1) before) (cases_lt t s);
  in_order = all_pairs_push (λ x y. Before (region_place x) (region_place y)) regions r to.in_order (λ k d within.
      (let b = (to.each (get_or regions k d) (Contains-get_or regions k d within)).1 in
      let P : ℕ → Type 0 = λ x. Before (region_place (get_or regions k d)) (x ∷ least r.er ∷ []) in
      let Q : ℕ → Type 0 = λ x. Before (region_place (get_or regions k d)) (event_place e ∷ x ∷ []) in
      subst P (sym (ap event_place same)) (subst Q (sym at) b)));
}
  where
    at : least r.er ≡ s
    at = least_new c e s regions done r are fresh is same here to

    on_left : (t : ℕ) (f : Event) → ((q : Region) × Contains regions q × (q.event ≡ f) × Contains q.er t)
        → (q : Region) × Contains (regions ++ r ∷ []) q × (q.event ≡ f) × Contains q.er t
    on_left t f found = (found.0, Contains-append_left regions (r ∷ []) found.0 found.1, found.2, found.3)

    pick : (t : ℕ) (f : Event) → IsTrue (enables c.graph t f)
        → (event_place f < event_place e) ⊎ ((event_place f ≡ event_place e) × (t < s + 1)) → (t < s) ⊎ (s ≤ t)
        → (q : Region) × Contains (regions ++ r ∷ []) q × (q.event ≡ f) × Contains q.er t
    pick t f on (inl h) other = on_left t f (to.all t f on (inl h))
    pick t f on (inr h) (inl below) = on_left t f (to.all t f on (inr (h.0, inl below)))
    pick t f on (inr h) (inr above) =
        let same_state : t ≡ s = omega (arith, h.1, above) in (
          r,
          Contains-push regions r,
          same ∙ sym (event_from_place f e h.0),
          subst (λ x. Contains r.er x)
              (sym same_state) here,
        )

pub done_more : (e : Event) (regions : List Region) (done new : List Bool) (r : Region) → r.event ≡ e
    → ((t : ℕ) → IsIn new t ↔ (IsIn done t ⊎ Contains r.er t)) → AreDone e regions done
    → AreDone e (regions ++ r ∷ []) new
done_more e regions done new r same grown are t = (
  (λ i. elim ((grown t).0 i) [
    | inl old ↦ (let k = (are t).0 old in (k.0, Contains-append_left regions (r ∷ []) k.0 k.1, k.2, k.3))
    | inr here ↦ (r, Contains-push regions r, same, here)
  ]),
  (λ found. elim (Contains-push_cases regions r found.0 found.1) [
    | inl old ↦ (grown t).1 (inl ((are t).1 (found.0, old, found.2, found.3)))
    | inr is ↦ (grown t).1 (inr (subst (λ (x : Region). Contains x.er t) (sym is) found.3))
  ]),
)

pub regions_event : (c : CodedGraph) (k s : ℕ) (regions : List Region) → c.graph.states ≤ s
    → ((t : ℕ) (e : Event) → IsTrue (enables c.graph t e) → t < c.graph.states) → RegionsTo c k s regions
    → RegionsTo c (k + 1) 0 regions
regions_event c k s regions all bound to = record {
  each = λ r there. (let q = to.each r there in (q.0, later r (at_places (event_place r.event) (least r.er) k s q.1)));
  all = λ t e on before. to.all t e on (pick t e (bound t e on) (at_places (event_place e) t (k + 1) 0 before)
      (cases_lt (event_place e) k));
  in_order = to.in_order;
}
  where
    later : (r : Region) → (event_place r.event < k) ⊎ ((event_place r.event ≡ k) × (least r.er < s))
        → Before (region_place r) ((k + 1) ∷ 0 ∷ [])
    later r (inl h) = inl (omega (arith, h))
    later r (inr h) = inl (omega (arith, h.0))

    pick : (t : ℕ) (e : Event) → t < c.graph.states → (event_place e < k + 1) ⊎ ((event_place e ≡ k + 1) × (t < 0))
        → (event_place e < k) ⊎ (k ≤ event_place e) → Before (event_place e ∷ t ∷ []) (k ∷ s ∷ [])
    pick t e inside (inl h) (inl below) = inl below
    pick t e inside (inl h) (inr above) = inr (omega (arith, h, above), inl (omega (arith, inside)))
    pick t e inside (inr h) other = absurd (omega (arith, h.1))

pub regions_all : (c : CodedGraph) (k : ℕ) (regions : List Region)
    → ((t : ℕ) (e : Event) → IsTrue (enables c.graph t e) → event_place e < k) → RegionsTo c k 0 regions
    → AreRegions c regions
regions_all c k regions all to = record {
  each = λ r there. (to.each r there).0;
  all = λ s e on. to.all s e on (inl (all s e on));
  in_order = to.in_order;
}

-- ---- bounds
pub enables_within : (g : StateGraph) (t : ℕ) (e : Event) → IsGraph g → IsTrue (enables g t e) → t < g.states
enables_within g t e graph on = let step = step_from_enables g t e on in (step_within g t e step.0 graph step.1).0

pub place_below : (c : CodedGraph) (n t : ℕ) (e : Event) → IsGraph c.graph → length c.graph.signals ≤ n
    → IsTrue (enables c.graph t e) → event_place e < 2 * n
place_below c n t e graph many on =
    below e.up
  where
    below : (up : Bool) → event_place (record { sig = e.sig; up = up }) < 2 * n
    below true = let step = step_from_enables c.graph t e on in let b = (step_within c.graph t e step.0 graph step.1).1
        in omega (arith, b, many)
    below false = let step = step_from_enables c.graph t e on in let b = (step_within c.graph t e step.0 graph step.1).1
        in omega (arith, b, many)
