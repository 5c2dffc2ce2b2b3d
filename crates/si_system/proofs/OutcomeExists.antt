-- Each event has a verdict at each state of the system, and each schedule an outcome from each state with a place.
use Rattle.std.proofs.Common.{◌≡◌, ◌≢◌, ℕ, ◌+◌, ◌<◌, ◌≤◌, ◌==◌, ◌&&◌, ◌⊎◌, zero, suc, Bool, true, false, not, List, []}
use Rattle.std.proofs.Common.{◌∷◌, length, slice_get, Option, Some, None, IsSome, refl, sym, ap, subst, ◌∙◌, arith, inl}
use Rattle.std.proofs.Common.{inr, eqb-true, eq-eqb, get_or}
use Rattle.std.proofs.lemmas.Bool.{true≢false, cases_Bool, cases_eq, cases_lt, and_parts, and_from}
use Rattle.std.proofs.lemmas.List.Folds.{list_any_at, Any-from_list_any}
use Rattle.std.proofs.lemmas.Option.{slice_get_cases}
use Rattle.std.specs.List.{list_any}
use Rattle.si_base.specs.declared.ids.Event.{Event}
use Rattle.si_base.specs.declared.graph.Edge.{Edge}
use Rattle.si_base.specs.declared.graph.Signal.{Signal}
use Rattle.si_base.specs.declared.graph.SigKind.{SigKind}
use Rattle.si_base.specs.declared.graph.SigKind.TheVariants.{Input, Output, Internal, Inserted}
use Rattle.si_base.specs.Bits.{bit, flip}
use Rattle.si_base.specs.Graph.{StateGraph, Step, arc, enables, same_event, is_driven}
use Rattle.si_base.specs.Netlist.{Netlist, IsExcited, gate_value}
use Rattle.si_base.specs.System.{State, IsLeastTarget, Follows, May}
use Rattle.si_base.proofs.GraphSteps.{step_from_enables, same_event-refl, same_event-true}
use Rattle.si_base.proofs.Booleans.{same_or_not}
use Rattle.si_system.specs.Outcome.{IsOutcome}
use Rattle.si_system.specs.Verdict.{IsStep, Loses, IsVerdict}
use Rattle.si_system.specs.declared.replay.Outcome.{Outcome}
use Rattle.si_system.specs.declared.replay.Outcome.TheVariants as outcome
use Rattle.si_system.specs.declared.verdict.Verdict.{Verdict}
use Rattle.si_system.specs.declared.verdict.Verdict.TheVariants.{Done, Blocked, Astray, Lost}
use Rattle.si_system.proofs.StepLemmas.{IsReadAt, lost_within, no_step, step_taken}

-- ---- the first number of which a decided property holds
abbrev Decided : Type 0 → Type 0
Decided P = P ⊎ (P → ⊥)

-- the property holds of k, and of no smaller number
record IsFirst (P : ℕ → Type 0) (k : ℕ) : Type 0 where
  holds : P k
  first : (u : ℕ) → u < k → P u → ⊥

none_below_more : (P : ℕ → Type 0) (k : ℕ) → ((u : ℕ) → u < k → P u → ⊥) → (P k → ⊥) → (u : ℕ) → u < suc k → P u → ⊥
none_below_more P k none isnt u below holds = elim (cases_lt u k) [
  | inl smaller ↦ none u smaller holds
  | inr larger ↦ let same : u ≡ k = omega arith in isnt (subst P same holds)
]

first_below : (P : ℕ → Type 0) → ((u : ℕ) → Decided (P u)) → (k : ℕ)
    → ((z : ℕ) × IsFirst P z) ⊎ ((u : ℕ) → u < k → P u → ⊥)
first_below P decide zero = inr (λ u below holds. absurd (omega arith))
first_below P decide (suc k) = elim (first_below P decide k) [
  | inl found ↦ inl found
  | inr none ↦ elim (decide k) [
    | inl holds ↦ inl (k, record { holds = holds; first = none })
    | inr isnt ↦ inr (none_below_more P k none isnt)
  ]
]

-- ---- the graph follows each event to one place
abbrev is_arc : ℕ → Event → ℕ → Edge → Bool
is_arc s e t a = (a.from == s) && (same_event a.event e && (a.to == t))

arc_test : (s : ℕ) (e : Event) (t : ℕ) → is_arc s e t (arc s e t) ≡ true
arc_test s e t = and_from _ _ (eq-eqb s s refl) (and_from _ _ (same_event-refl e) (eq-eqb t t refl))

tested_arc : (s : ℕ) (e : Event) (t : ℕ) (a : Edge) → is_arc s e t a ≡ true → a ≡ arc s e t
tested_arc s e t a is =
    let parts = and_parts (a.from == s) (same_event a.event e && (a.to == t)) is in
    let ends = and_parts (same_event a.event e) (a.to == t) parts.1 in
    let from : a.from ≡ s = eqb-true a.from s parts.0 in
    let event : a.event ≡ e = same_event-true a.event e ends.0 in
    let to : a.to ≡ t = eqb-true a.to t ends.1 in
    ap (λ (x : ℕ). arc x a.event a.to) from ∙ ap (λ (x : Event). arc s x a.to) event ∙ ap (λ (x : ℕ). arc s e x) to

step_decided : (g : StateGraph) (s : ℕ) (e : Event) (t : ℕ) → Decided (Step g s e t)
step_decided g s e t = elim (cases_Bool (list_any (is_arc s e t) g.edges)) [
  | inl passes ↦ inl (step_of passes)
  | inr fails ↦ inr (λ step. true≢false (sym (list_any_at (is_arc s e t) g.edges step.0 (arc s e t) step.1
      (ap (is_arc s e t) step.2 ∙ arc_test s e t)) ∙ fails))
]
  where
    step_of : list_any (is_arc s e t) g.edges ≡ true → Step g s e t
    step_of passes =
        let any = Any-from_list_any (is_arc s e t) g.edges passes in
        let a : Edge = any.1 in
        let same : a ≡ arc s e t = tested_arc s e t a any.4 in
        (any.0, any.2, subst (λ (x : Edge). get_or g.edges any.0 x ≡ x) same any.3)

some_least_target : (g : StateGraph) (s : ℕ) (e : Event) (t : ℕ) → Step g s e t → (u : ℕ) × IsLeastTarget g s e u
some_least_target g s e t step = elim (first_below (λ u. Step g s e u) (step_decided g s e) (suc t)) [
  | inl (u, is) ↦ (u, record { step = is.holds; least = λ v there. least u is v there })
  | inr none ↦ absurd (none t (omega arith) step)
]
  where
    least : (u : ℕ) → IsFirst (λ v. Step g s e v) u → (v : ℕ) → Step g s e v → u ≤ v
    least u is v there = elim (cases_lt v u) [
      | inl below ↦ absurd (is.first v below there)
      | inr above ↦ above
    ]

some_following : (g : StateGraph) (s : ℕ) (e : Event) → (place : Option ℕ) × Follows g s e place
some_following g s e = elim (cases_Bool (enables g s e)) [
  | inl enabled ↦ let step = step_from_enables g s e enabled in let target = some_least_target g s e step.0 step.1 in
      (Some target.0, target.1)
  | inr isnt ↦ (None, λ enabled. true≢false (sym enabled ∙ isnt))
]

-- ---- whether a gate is excited, and whether it loses that
excited_decided : (n : Netlist) (values z : ℕ) → Decided (IsExcited n values z)
excited_decided n values z = elim (slice_get_cases n.signals z).1 [
  | inl there ↦ elim (cases_Bool (is_driven there.0.kind)) [
    | inl driven ↦ elim (same_or_not (gate_value n z values) (bit values z)) [
      | inl same ↦ inr (λ is. is.differs same)
      | inr differs ↦ inl (record { gate = (there.0, there.2, driven); differs = differs })
    ]
    | inr input ↦ inr (λ is. undriven there.0 is.gate.0 there.2 is.gate.1 input is.gate.2)
  ]
  | inr past ↦ inr (λ is. let e : Some is.gate.0 ≡ None = sym is.gate.1 ∙ past.1 in cc)
]
  where
    undriven : (x y : Signal) → slice_get n.signals z ≡ Some x → slice_get n.signals z ≡ Some y
        → is_driven x.kind ≡ false → is_driven y.kind ≡ true → ⊥
    undriven x y at also isnt is =
        let same : x ≡ y = cc in
        true≢false (sym is ∙ ap (λ (s : Signal). is_driven s.kind) (sym same) ∙ isnt)

loses_decided : (n : Netlist) (before after fired z : ℕ) → Decided (Loses n before after fired z)
loses_decided n before after fired z = elim (cases_eq z fired) [
  | inl same ↦ inr (λ is. is.other same)
  | inr other ↦ elim (excited_decided n before z) [
    | inr calm ↦ inr (λ is. calm is.was_excited)
    | inl was ↦ elim (excited_decided n after z) [
      | inl stays ↦ inr (λ is. is.is_not stays)
      | inr isnt ↦ inl (record { other = other; was_excited = was; is_not = isnt })
    ]
  ]
]

-- ---- whether an event is a step
may_decided : (kind : SigKind) (g : StateGraph) (n : Netlist) (values s : ℕ) (e : Event)
    → ((place : Option ℕ) × May kind g n values s e place) ⊎ ((place : Option ℕ) → May kind g n values s e place → ⊥)
may_decided Input g n values s e = elim (cases_Bool (enables g s e)) [
  | inl enabled ↦ let place = some_following g s e in inl (place.0, (enabled, place.1))
  | inr isnt ↦ inr (λ place is. true≢false (sym is.0 ∙ isnt))
]
may_decided Output g n values s e = elim (excited_decided n values e.sig) [
  | inl is ↦ let place = some_following g s e in inl (place.0, (is, place.1))
  | inr isnt ↦ inr (λ place is. isnt is.0)
]
may_decided Internal g n values s e = elim (excited_decided n values e.sig) [
  | inl is ↦ let place = some_following g s e in inl (place.0, (is, place.1))
  | inr isnt ↦ inr (λ place is. isnt is.0)
]
may_decided Inserted g n values s e = elim (excited_decided n values e.sig) [
  | inl is ↦ inl (Some s, (is, refl))
  | inr isnt ↦ inr (λ place is. isnt is.0)
]

is_step_decided : (g : StateGraph) (n : Netlist) (x : State) (e : Event) → Decided (IsStep g n x e)
is_step_decided g n x e = from x.place refl
  where
    at : (s : ℕ) (signal : Signal) → IsReadAt g n x e g n x.values s signal → Decided (IsStep g n x e)
    at s signal read = elim (same_or_not (bit x.values e.sig) (not e.up)) [
      | inr differs ↦ inr (λ step. differs step.1.old_value)
      | inl old ↦ elim (may_decided signal.kind g n x.values s e) [
        | inl (place, is) ↦ inl (
          record { values = flip x.values e.sig; place = place },
          step_taken g n x e g n x.values s signal (flip x.values e.sig) place read old refl is,
        )
        | inr none ↦ inr (no_step g n x e g n x.values s signal read none)
      ]
    ]

    from : (place : Option ℕ) → x.place ≡ place → Decided (IsStep g n x e)
    from None astray = inr (λ step. let h : Some step.1.at ≡ None = sym step.1.not_astray ∙ astray in cc)
    from (Some s) stands = elim (slice_get_cases n.signals e.sig).1 [
      | inl there ↦ at s there.0 (record {
        graph_is = refl;
        netlist_is = refl;
        values_are = refl;
        stands = stands;
        named = there.2;
      })
      | inr past ↦ inr (λ step. let h : Some step.1.signal ≡ None = sym step.1.named ∙ past.1 in cc)
    ]

-- ---- a verdict, and an outcome
placed : (x : State) (s : ℕ) → x.place ≡ Some s → IsSome x.place
placed x s stands = subst (λ (p : Option ℕ). IsSome p) (sym stands) refl

pub some_verdict : (g : StateGraph) (n : Netlist) (x : State) (e : Event)
    → (v : Verdict) × (y : State) × IsVerdict g n x e v y
some_verdict g n x e = elim (is_step_decided g n x e) [
  | inr none ↦ (Blocked, x, (none, refl))
  | inl (y, fires) ↦ elim (place_of y) [
    | inl astray ↦ (Astray e.sig, y, (fires, astray, refl))
    | inr stands ↦ elim (first_below (Loses n x.values y.values e.sig)
        (loses_decided n x.values y.values e.sig) (length n.signals)) [
          | inl (z, lost) ↦ (Lost z, y, (fires, stands, record { loses = lost.holds; first = lost.first }))
          | inr none ↦ (Done, y, (fires, stands, λ z lost. none z (lost_within n x.values y.values e.sig z lost) lost))
        ]
  ]
]
  where
    from : (y : State) (place : Option ℕ) → y.place ≡ place → (y.place ≡ None) ⊎ IsSome y.place
    from y None astray = inl astray
    from y (Some s) stands = inr (placed y s stands)

    place_of : (y : State) → (y.place ≡ None) ⊎ IsSome y.place
    place_of y = from y y.place refl

-- an outcome with one more event in front that passes
one_before : (g : StateGraph) (n : Netlist) (x : State) (e : Event) (es : List Event) (y : State) (o : Outcome)
    → IsVerdict g n x e Done y → IsOutcome g n y es o → (p : Outcome) × IsOutcome g n x (e ∷ es) p
one_before g n x e es y (outcome.Done values state) done is =
    (outcome.Done values state, (is.0, (y, done, is.1), is.2, is.3))
one_before g n x e es y (outcome.Differs step f v) done first = (
  outcome.Differs (step + 1) f v,
  record {
    before = e ∷ first.before;
    after = first.after;
    cut = ap (λ (fs : List Event). e ∷ fs) first.cut;
    count = (let count : step ≡ length first.before + 1 = first.count in omega arith);
    reached = first.reached;
    passes = (y, done, first.passes);
    next = first.next;
    fired = first.fired;
    differs = first.differs;
  },
)

-- the first event doesn't pass
at_once : (g : StateGraph) (n : Netlist) (x : State) (e : Event) (es : List Event) (v : Verdict) (y : State)
    → IsVerdict g n x e v y → v ≢ Done → (o : Outcome) × IsOutcome g n x (e ∷ es) o
at_once g n x e es v y fired differs = (
  outcome.Differs 1 e v,
  record {
    before = [];
    after = es;
    cut = refl;
    count = refl;
    reached = x;
    passes = refl;
    next = y;
    fired = fired;
    differs = differs;
  },
)

after_first : (g : StateGraph) (n : Netlist) (x : State) (e : Event) (es : List Event) (v : Verdict) (y : State)
    → IsVerdict g n x e v y → ((z : State) → IsSome z.place → (o : Outcome) × IsOutcome g n z es o)
    → (o : Outcome) × IsOutcome g n x (e ∷ es) o
after_first g n x e es Blocked y fired rest = at_once g n x e es Blocked y fired (λ same. cc)
after_first g n x e es (Astray sig) y fired rest = at_once g n x e es (Astray sig) y fired (λ same. cc)
after_first g n x e es (Lost sig) y fired rest = at_once g n x e es (Lost sig) y fired (λ same. cc)
after_first g n x e es Done y fired rest = (let o = rest y fired.1 in one_before g n x e es y o.0 fired o.1)

pub some_outcome : (g : StateGraph) (n : Netlist) (x : State) (schedule : List Event) → IsSome x.place
    → (o : Outcome) × IsOutcome g n x schedule o
some_outcome g n x [] stands = from x.place refl stands
  where
    from : (place : Option ℕ) → x.place ≡ place → IsSome place → (o : Outcome) × IsOutcome g n x [] o
    from None astray is = cc
    from (Some s) at is = (outcome.Done x.values s, (x, refl, refl, at))
some_outcome g n x (e ∷ es) stands =
    let verdict = some_verdict g n x e in
    after_first g n x e es verdict.0 verdict.1 verdict.2 (λ z is. some_outcome g n z es is)
