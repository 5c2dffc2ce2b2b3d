-- Least sets exist: marks are added as long as a rule asks for one.
use Rattle.std.proofs.Common.{◌≡◌, ◌≢◌, ℕ, zero, suc, ◌<◌, ◌≤◌, ◌⊎◌, Bool, true, false, not, List, [], ◌∷◌, length}
use Rattle.std.proofs.Common.{get_or, set, replicate, Contains, slice_get, Some, refl, sym, ap, subst, ◌∙◌, arith, inl}
use Rattle.std.proofs.Common.{inr, length-set}
use Rattle.std.proofs.lemmas.Bool.{cases_lt, cases_eq, cases_order}
use Rattle.std.proofs.lemmas.List.{length-replicate}
use Rattle.std.proofs.lemmas.Option.{slice_get-get_or, slice_get_within, same_Some}
use Rattle.si_base.specs.Sets.{IsSubset}
use Rattle.si_base.specs.declared.ids.Event.{Event}
use Rattle.si_base.specs.declared.graph.Edge.{Edge}
use Rattle.si_base.specs.declared.graph.Signal.{Signal}
use Rattle.si_base.specs.declared.graph.SigKind.{SigKind}
use Rattle.si_base.specs.declared.graph.SigKind.TheVariants.{Input, Output, Internal, Inserted}
use Rattle.si_base.specs.Graph.{StateGraph, Step, IsGraph, IsNonInput, arc}
use Rattle.si_base.proofs.StepCodes.{step_within}
use Rattle.si_base.specs.Sets.{IsIn}
use Rattle.si_graph.specs.Loops.Reach.{Marks, unmarked}
use Rattle.si_graph.proofs.SearchLemmas.{in_cases, in_none, one_taken}
use Rattle.si_checks.proofs.SearchDecisions as decide
use Rattle.si_checks.proofs.SearchDecisions.{Decided, some_of, pairs, in_pairs, of_pairs}
use Rattle.si_insert.specs.Accepted.{IsInput}
use Rattle.si_divisor.specs.Targets.{IsLeast, Settles, holds}
use Rattle.si_insert.specs.Diamond.{Diamond}
use Rattle.si_divisor.specs.Switching.{Switches}
use Rattle.si_divisor.proofs.TargetSets.{in_or_not}

-- ---- a state that the rules ask for, beside those that are marked
pub record IsAsked (n : ℕ) (Rules : List Bool → Type 0) (marks : List Bool) (t : ℕ) : Type 0 where
  pub within : t < n
  pub fresh : get_or marks t false ≡ false
  pub asked : (other : List Bool) → length other ≡ n → Rules other → IsSubset marks other → IsIn other t

module _ (n : ℕ) (Rules : List Bool → Type 0)
    (next : (marks : List Bool) → length marks ≡ n → Rules marks ⊎ ((t : ℕ) × IsAsked n Rules marks t)) where
  abbrev AreSound : List Bool → Type 0
  AreSound marks = (other : List Bool) → length other ≡ n → Rules other → IsSubset marks other

  least_of : (marks : List Bool) → length marks ≡ n → AreSound marks → Rules marks → (found : List Bool)
      × IsLeast n Rules found
  least_of marks size sound meets = (marks, record { size = size; meets = meets; least = sound })

  added : (marks : List Bool) (t : ℕ) → length marks ≡ n → IsAsked n Rules marks t
      → Marks (λ u. (u ≡ t) × Unit {0}) marks [] (set marks t true) (t ∷ [])
  added marks t size asks =
      (one_taken (λ u. Unit {0}) marks [] t tt (omega (arith, asks.within, size)) asks.fresh).marks_are

  sound_on : (marks : List Bool) (t : ℕ) → IsAsked n Rules marks t → AreSound marks → AreSound (set marks t true)
  sound_on marks t asks sound other same rules s there = elim (in_cases marks t s there) [
    | inl is ↦ subst (λ (k : ℕ). IsIn other k) (sym is) (asks.asked other same rules (sound other same rules))
    | inr old ↦ sound other same rules s old
  ]

  grow : (left : ℕ) (marks : List Bool) → unmarked marks ≤ left → length marks ≡ n → AreSound marks
      → (found : List Bool) × IsLeast n Rules found
  grow zero marks few size sound = elim (next marks size) [
    | inl meets ↦ least_of marks size sound meets
    | inr (t, asks) ↦ absurd (omega (arith, (added marks t size asks).counted, few))
  ]
  grow (suc left) marks few size sound = elim (next marks size) [
    | inl meets ↦ least_of marks size sound meets
    | inr (t, asks) ↦ grow left (set marks t true) (omega (arith, (added marks t size asks).counted, few))
        (length-set marks t true ∙ size) (sound_on marks t asks sound)
  ]

  pub some_least : (found : List Bool) × IsLeast n Rules found
  some_least = grow (unmarked (replicate n false)) (replicate n false) (omega arith) (length-replicate n false)
      (λ other same rules s there. absurd (in_none n s there))

-- ---- decisions
pub either : {P Q : Type 0} → Decided P → Decided Q → Decided (P ⊎ Q)
either (inl p) q = inl (inl p)
either (inr none) (inl q) = inl (inr q)
either (inr none) (inr other) = inr (λ some. elim some [ inl p ↦ none p | inr q ↦ other q ])

-- the first number below k that has P
pub first_below : (P : ℕ → Type 0) → ((s : ℕ) → Decided (P s)) → (k : ℕ)
    → ((s : ℕ) × (s < k) × P s × ((t : ℕ) → t < s → P t → ⊥)) ⊎ ((t : ℕ) → t < k → P t → ⊥)
first_below P decided zero = inr (λ t below p. omega (arith, below))
first_below P decided (suc k) = elim (first_below P decided k) [
  | inl (s, below, p, none) ↦ inl (s, omega (arith, below), p, none)
  | inr none ↦ elim (decided k) [
    | inl p ↦ inl (k, omega arith, p, none)
    | inr other ↦ inr (λ t below p. elim (cases_order t k) [
      | inl same ↦ other (subst P same p)
      | inr (inl before) ↦ none t before p
      | inr (inr after) ↦ omega (arith, below, after)
    ])
  ]
]

pub is_in : (marks : List Bool) (s : ℕ) → Decided (IsIn marks s)
is_in marks s = decide.same_value (get_or marks s false) true

is_fresh : (marks : List Bool) (s : ℕ) → Decided (get_or marks s false ≡ false)
is_fresh marks s = decide.same_value (get_or marks s false) false

in_unless : (marks : List Bool) (s : ℕ) → (get_or marks s false ≡ false → ⊥) → IsIn marks s
in_unless marks s none = elim (in_or_not marks s) [ inl there ↦ there | inr fresh ↦ absurd (none fresh) ]

kind_is_input : (k : SigKind) → Decided (k ≡ Input)
kind_is_input Input = inl refl
kind_is_input Output = inr (λ (h : Output ≡ Input). cc)
kind_is_input Internal = inr (λ (h : Internal ≡ Input). cc)
kind_is_input Inserted = inr (λ (h : Inserted ≡ Input). cc)

no_signal : Signal
no_signal = record { name = []; kind = Input }

is_input : (signals : List Signal) (z : ℕ) → Decided (IsInput signals z)
is_input signals z = elim (cases_lt z (length signals)) [
  | inr past ↦ inr (λ (y, at, is). absurd (omega (arith, slice_get_within signals z y at, past)))
  | inl within ↦ (
      let x : Signal = get_or signals z no_signal in
      let at : slice_get signals z ≡ Some x = slice_get-get_or signals z no_signal within in
      elim (kind_is_input x.kind) [
        | inl is ↦ inl (x, at, is)
        | inr other ↦ inr (λ (y, also, is). other (ap (λ (w : Signal). w.kind) (same_Some x y (sym at ∙ also)) ∙ is))
      ])
]

-- ---- the states that settle at b
module _ (g : StateGraph) (graph : IsGraph g) (forced : Bool → ℕ → Bool) (b : Bool) where
  abbrev Begins : List Bool → ℕ → Type 0
  Begins marks s = (forced b s ≡ true) × (get_or marks s false ≡ false)

  abbrev GoesOn : List Bool → Edge → Type 0
  GoesOn marks a = IsIn marks a.from × ((holds forced a.to ≡ true) × (get_or marks a.to false ≡ false))

  begins_or_not : (marks : List Bool) (s : ℕ) → Decided (Begins marks s)
  begins_or_not marks s = decide.both (decide.same_value (forced b s) true) (is_fresh marks s)

  goes_on_or_not : (marks : List Bool) (a : Edge) → Decided (GoesOn marks a)
  goes_on_or_not marks a = decide.both (is_in marks a.from)
      (decide.both (decide.same_value (holds forced a.to) true) (is_fresh marks a.to))

  settles_next : (marks : List Bool) → length marks ≡ g.states
      → Settles g forced b marks ⊎ ((t : ℕ) × IsAsked g.states (Settles g forced b) marks t)
  settles_next marks size = elim (first_below (Begins marks) (begins_or_not marks) g.states) [
    | inl (s, below, is, none) ↦ inr (
      s,
      record {
        within = below;
        fresh = is.1;
        asked = λ other same rules sub. rules.begins s below is.0;
      },
    )
    | inr no_begin ↦ elim (some_of (GoesOn marks) (goes_on_or_not marks) g.edges) [
      | inl (a, there, is) ↦ inr (
        a.to,
        record {
          within = (step_within g a.from a.event a.to graph there).2;
          fresh = is.1.1;
          asked = λ other same rules sub. rules.goes_on a.from a.event a.to there (sub a.from is.0) is.1.0;
        },
      )
      | inr no_step ↦ inl (record {
        begins = λ s below is. in_unless marks s (λ fresh. no_begin s below (is, fresh));
        goes_on = λ s e t step there hold. in_unless marks t
            (λ fresh. no_step (arc s e t, step, (there, (hold, fresh))));
      })
    ]
  ]

  pub some_settled : (found : List Bool) × IsLeast g.states (Settles g forced b) found
  some_settled = some_least g.states (Settles g forced b) settles_next

-- ---- the states that switch to b
module _ (g : StateGraph) (graph : IsGraph g) (target : ℕ → Bool) (b : Bool) where
  abbrev Entered : List Bool → Edge → Type 0
  Entered marks a = (target a.from ≡ not b) × ((target a.to ≡ b) × (get_or marks a.to false ≡ false))

  abbrev Precedes : List Bool → Edge → Type 0
  Precedes marks a = IsIn marks a.to × ((target a.from ≡ b) × (get_or marks a.from false ≡ false))

  abbrev ByInput : List Bool → Edge → Type 0
  ByInput marks a = IsInput g.signals a.event.sig × (IsIn marks a.from × (get_or marks a.to false ≡ false))

  -- s leads by a to t and by c to u, and u by a to w
  abbrev Exits : List Bool → Edge × (Edge × Edge) → Type 0
  Exits marks (x, (y, z)) =
      (y.from ≡ x.from) × ((z.from ≡ y.to) × ((z.event ≡ x.event) × ((x.event ≢ y.event)
      × (IsNonInput g.signals x.event.sig × (IsIn marks y.to
      × (((target x.from ≡ not b) ⊎ (IsIn marks x.from × IsIn marks x.to)) × (get_or marks z.to false ≡ false)))))))

  entered_or_not : (marks : List Bool) (a : Edge) → Decided (Entered marks a)
  entered_or_not marks a = decide.both (decide.same_value (target a.from) (not b))
      (decide.both (decide.same_value (target a.to) b) (is_fresh marks a.to))

  precedes_or_not : (marks : List Bool) (a : Edge) → Decided (Precedes marks a)
  precedes_or_not marks a = decide.both (is_in marks a.to)
      (decide.both (decide.same_value (target a.from) b) (is_fresh marks a.from))

  by_input_or_not : (marks : List Bool) (a : Edge) → Decided (ByInput marks a)
  by_input_or_not marks a = decide.both (is_input g.signals a.event.sig)
      (decide.both (is_in marks a.from) (is_fresh marks a.to))

  exits_or_not : (marks : List Bool) (p : Edge × (Edge × Edge)) → Decided (Exits marks p)
  exits_or_not marks (x, (y, z)) =
      let may = either (decide.same_value (target x.from) (not b))
      (decide.both (is_in marks x.from) (is_in marks x.to)) in
      let last = decide.both (is_in marks y.to) (decide.both may (is_fresh marks z.to)) in
      let events = decide.both (decide.equal_events z.event x.event)
      (decide.both (decide.not (decide.equal_events x.event y.event))
      (decide.both (decide.driven g.signals x.event.sig) last)) in
      decide.both (cases_eq y.from x.from) (decide.both (cases_eq z.from y.to) events)

  triples : List (Edge × (Edge × Edge))
  triples = pairs g.edges (pairs g.edges g.edges)

  triple_there : (x y z : Edge) → Contains g.edges x → Contains g.edges y → Contains g.edges z
      → Contains triples (x, (y, z))
  unfolding triples
  triple_there x y z in_x in_y in_z =
      in_pairs g.edges (pairs g.edges g.edges) x (y, z) in_x (in_pairs g.edges g.edges y z in_y in_z)

  asked_by_exit : (marks : List Bool) (p : Edge × (Edge × Edge)) → Contains triples p → Exits marks p
      → IsAsked g.states (Switches g target b) marks p.1.1.to
  unfolding triples
  asked_by_exit marks (x, (y, z)) there (beside, (after, (again, (apart, (driven, (in_u, (may, fresh))))))) =
      let outer = of_pairs g.edges (pairs g.edges g.edges) (x, (y, z)) there in
      let inner = of_pairs g.edges g.edges (y, z) outer.1 in
      let other : Step g x.from y.event y.to = subst (λ (s : ℕ). Step g s y.event y.to) beside inner.0 in
      let next : Step g y.to x.event z.to =
      subst (λ (e : Event). Step g y.to e z.to) again (subst (λ (s : ℕ). Step g s z.event z.to) after inner.1) in
      let diamond : Diamond g x.from x.event y.event x.to y.to z.to =
      record { non_input = driven; apart = apart; first = outer.0; other = other; next = next } in
      record {
        within = (step_within g y.to x.event z.to graph next).2;
        fresh = fresh;
        asked = λ set same rules sub.
            rules.exits x.from x.event y.event x.to y.to z.to diamond (sub y.to in_u)
            (elim may [ inl low ↦ inl low | inr both ↦ inr (sub x.from both.0, sub x.to both.1) ]);
      }

  abbrev NoneEntered : List Bool → Type 0
  NoneEntered marks = (a : Edge) × Contains g.edges a × Entered marks a → ⊥

  abbrev NonePrecedes : List Bool → Type 0
  NonePrecedes marks = (a : Edge) × Contains g.edges a × Precedes marks a → ⊥

  abbrev NoneByInput : List Bool → Type 0
  NoneByInput marks = (a : Edge) × Contains g.edges a × ByInput marks a → ⊥

  abbrev NoneExits : List Bool → Type 0
  NoneExits marks = (p : Edge × (Edge × Edge)) × Contains triples p × Exits marks p → ⊥

  meets_if_none : (marks : List Bool) → NoneEntered marks → NonePrecedes marks → NoneByInput marks → NoneExits marks
      → Switches g target b marks
  meets_if_none marks no_entry no_before no_input no_exit = record {
    entered = λ s e t step low high. in_unless marks t (λ fresh. no_entry (arc s e t, step, (low, (high, fresh))));
    before = λ s e t step there high. in_unless marks s
        (λ fresh. no_before (arc s e t, step, (there, (high, fresh))));
    inputs = λ s e t step input there. in_unless marks t
        (λ fresh. no_input (arc s e t, step, (input, (there, fresh))));
    exits = λ s a c t u w d in_u may. in_unless marks w (λ fresh. no_exit (
      (arc s a t, (arc s c u, arc u a w)),
      triple_there (arc s a t) (arc s c u) (arc u a w) d.first d.other d.next,
      (refl, (refl, (refl, (d.apart, (d.non_input, (in_u, (may, fresh))))))),
    ));
  }

  target_of : (a : Edge) → Contains g.edges a → a.to < g.states
  target_of a there = (step_within g a.from a.event a.to graph there).2

  switches_next : (marks : List Bool) → length marks ≡ g.states
      → Switches g target b marks ⊎ ((t : ℕ) × IsAsked g.states (Switches g target b) marks t)
  switches_next marks size = elim (some_of (Entered marks) (entered_or_not marks) g.edges) [
    | inl (a, there, is) ↦ inr (
      a.to,
      record {
        within = target_of a there;
        fresh = is.1.1;
        asked = λ other same rules sub. rules.entered a.from a.event a.to there is.0 is.1.0;
      },
    )
    | inr no_entry ↦ elim (some_of (Precedes marks) (precedes_or_not marks) g.edges) [
      | inl (a, there, is) ↦ inr (
        a.from,
        record {
          within = (step_within g a.from a.event a.to graph there).0;
          fresh = is.1.1;
          asked = λ other same rules sub. rules.before a.from a.event a.to there (sub a.to is.0) is.1.0;
        },
      )
      | inr no_before ↦ elim (some_of (ByInput marks) (by_input_or_not marks) g.edges) [
        | inl (a, there, is) ↦ inr (
          a.to,
          record {
            within = target_of a there;
            fresh = is.1.1;
            asked = λ other same rules sub. rules.inputs a.from a.event a.to there is.0 (sub a.from is.1.0);
          },
        )
        | inr no_input ↦ elim (some_of (Exits marks) (exits_or_not marks) triples) [
          | inl (p, there, is) ↦ inr (p.1.1.to, asked_by_exit marks p there is)
          | inr no_exit ↦ inl (meets_if_none marks no_entry no_before no_input no_exit)
        ]
      ]
    ]
  ]

  pub some_switching : (found : List Bool) × IsLeast g.states (Switches g target b) found
  some_switching = some_least g.states (Switches g target b) switches_next
