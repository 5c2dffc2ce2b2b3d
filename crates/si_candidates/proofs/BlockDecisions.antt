-- What can be decided of sets of states: whether two are disjoint, and whether a signal may switch in one.
use Rattle.std.proofs.Common.{◌≡◌, ◌≢◌, ℕ, zero, suc, ◌⊎◌, Bool, true, false, List, [], ◌∷◌, length, get_or, slice_get}
use Rattle.std.proofs.Common.{Some, Contains, refl, sym, ap, subst, ◌∙◌, arith, inl, inr}
use Rattle.std.proofs.lemmas.Bool.{cases_eq, cases_lt, true≢false}
use Rattle.std.proofs.lemmas.Option.{slice_get-get_or, slice_get_within, same_Some}
use Rattle.si_base.specs.declared.ids.Event.{Event}
use Rattle.si_base.specs.declared.graph.Edge.{Edge}
use Rattle.si_base.specs.declared.graph.Signal.{Signal}
use Rattle.si_base.specs.declared.graph.SigKind.{SigKind}
use Rattle.si_base.specs.declared.graph.SigKind.TheVariants.{Input, Output, Internal, Inserted}
use Rattle.si_base.specs.Graph.{StateGraph, Step, arc, IsNonInput}
use Rattle.si_base.specs.Sets.{IsIn, IsDisjoint}
use Rattle.si_checks.proofs.SearchDecisions as decide
use Rattle.si_checks.proofs.SearchDecisions.{Decided, both, all_of, same_value, equal_events, driven}
use Rattle.si_insert.specs.Accepted.{IsInput}
use Rattle.si_insert.specs.Diamond.{Diamond}
use Rattle.si_candidates.specs.Blocking.{IsClosedUnderInputs, KeepsExits, MaySwitch}

pub either : {P Q : Type 0} → Decided P → Decided Q → Decided (P ⊎ Q)
either (inl p) q = inl (inl p)
either (inr not_p) (inl q) = inl (inr q)
either (inr not_p) (inr not_q) = inr (λ is. elim is [ inl p ↦ not_p p | inr q ↦ not_q q ])

pub follows : {P Q : Type 0} → Decided P → Decided Q → Decided (P → Q)
follows (inr not_p) q = inl (λ p. absurd (not_p p))
follows (inl p) (inl q) = inl (λ _. q)
follows (inl p) (inr not_q) = inr (λ on. not_q (on p))

pub member : (set : List Bool) (s : ℕ) → Decided (IsIn set s)
member set s = same_value (get_or set s false) true

-- ---- disjoint sets
-- some state is in both
abbrev Meet : List Bool → List Bool → Type 0
Meet x y = (s : ℕ) × IsIn x s × IsIn y s

meet_later : (b d : Bool) (x y : List Bool) → ((b ≡ true) × (d ≡ true) → ⊥) → (Meet x y → ⊥) → (s : ℕ) → IsIn (b ∷ x) s
    → IsIn (d ∷ y) s → ⊥
meet_later b d x y not_here none zero one other = not_here (one, other)
meet_later b d x y not_here none (suc s) one other = none (s, one, other)

meet_or_not : (x y : List Bool) → Decided (Meet x y)
meet_or_not [] y = inr (λ (s, one, other). true≢false (sym one))
meet_or_not (b ∷ x) [] = inr (λ (s, one, other). true≢false (sym other))
meet_or_not (b ∷ x) (d ∷ y) = elim (both (same_value b true) (same_value d true)) [
  | inl here ↦ inl (0, here.0, here.1)
  | inr not_here ↦ elim (meet_or_not x y) [
    | inl (s, one, other) ↦ inl (suc s, one, other)
    | inr none ↦ inr (λ (s, one, other). meet_later b d x y not_here none s one other)
  ]
]

pub disjoint_or_not : (x y : List Bool) → Decided (IsDisjoint x y)
disjoint_or_not x y = elim (meet_or_not x y) [
  | inl (s, one, other) ↦ inr (λ apart. apart s one other)
  | inr none ↦ inl (λ s one other. none (s, one, other))
]

-- ---- inputs
input_kind : (k : SigKind) → Decided (k ≡ Input)
input_kind Input = inl refl
input_kind Output = inr (λ (is : Output ≡ Input). cc)
input_kind Internal = inr (λ (is : Internal ≡ Input). cc)
input_kind Inserted = inr (λ (is : Inserted ≡ Input). cc)

pub input_or_not : (signals : List Signal) (a : ℕ) → Decided (IsInput signals a)
input_or_not signals a = elim (cases_lt a (length signals)) [
  | inl within ↦ (
      let x : Signal = get_or signals a (record { name = []; kind = Output }) in
      let at : slice_get signals a ≡ Some x = slice_get-get_or signals a (record { name = []; kind = Output }) within in
      elim (input_kind x.kind) [
        | inl is ↦ inl (x, at, is)
        | inr is_not ↦ inr (λ (y, also, is).
            is_not (ap (λ (w : Signal). w.kind) (same_Some x y (sym at ∙ also)) ∙ is))
      ])
  | inr past ↦ inr (λ (y, at, is). absurd (omega (arith, slice_get_within signals a y at)))
]

-- ---- where a signal may switch
module _ (g : StateGraph) (set : List Bool) where
  -- the arc doesn't lead out of the set by an input
  abbrev Stays : Edge → Type 0
  Stays a = IsInput g.signals a.event.sig → IsIn set a.from → IsIn set a.to

  stays_or_not : (a : Edge) → Decided (Stays a)
  stays_or_not a =
      follows (input_or_not g.signals a.event.sig) (follows (member set a.from) (member set a.to))

  pub closed_or_not : Decided (IsClosedUnderInputs g (IsIn set))
  closed_or_not = elim (all_of Stays stays_or_not g.edges) [
    | inl all ↦ inl (λ s e t input step from. all (arc s e t) step input from)
    | inr not_all ↦ inr (λ closed. not_all (λ a there input from. closed a.from a.event a.to input there from))
  ]

  -- the arcs a and b leave one state, and d goes on from b by the event of a
  abbrev Meets : Edge → Edge → Edge → Type 0
  Meets a b d = IsNonInput g.signals a.event.sig
      × ((a.event ≢ b.event) × ((b.from ≡ a.from) × ((d.from ≡ b.to) × (d.event ≡ a.event))))

  abbrev Exits : Edge → Edge → Edge → Type 0
  Exits a b d = Meets a b d → IsIn set b.to → (IsIn set d.to → ⊥) → IsIn set a.from × (IsIn set a.to → ⊥)

  meets_or_not : (a b d : Edge) → Decided (Meets a b d)
  meets_or_not a b d =
      both (driven g.signals a.event.sig)
      (both (decide.not (equal_events a.event b.event))
      (both (cases_eq b.from a.from) (both (cases_eq d.from b.to) (equal_events d.event a.event))))

  exits_or_not : (a b d : Edge) → Decided (Exits a b d)
  exits_or_not a b d =
      follows (meets_or_not a b d)
      (follows (member set b.to)
      (follows (decide.not (member set d.to)) (both (member set a.from) (decide.not (member set a.to)))))

  abbrev AllExit : Type 0
  AllExit = (a : Edge) → Contains g.edges a → (b : Edge) → Contains g.edges b → (d : Edge) → Contains g.edges d
      → Exits a b d

  all_exit_or_not : Decided AllExit
  all_exit_or_not =
      all_of (λ a. (b : Edge) → Contains g.edges b → (d : Edge) → Contains g.edges d → Exits a b d)
      (λ a. all_of (λ b. (d : Edge) → Contains g.edges d → Exits a b d)
      (λ b. all_of (Exits a b) (exits_or_not a b) g.edges) g.edges) g.edges

  to_diamond : (a b d : Edge) → Contains g.edges a → Contains g.edges b → Contains g.edges d → Meets a b d
      → Diamond g a.from a.event b.event a.to b.to d.to
  to_diamond a b d in_a in_b in_d (non_input, (apart, (from, (on, same)))) =
      let P : ℕ → Type 0 = λ s. Step g s b.event b.to in
      let Q : Event → Type 0 = λ e. Step g d.from e d.to in
      let R : ℕ → Type 0 = λ s. Step g s a.event d.to in
      record {
        non_input = non_input;
        apart = apart;
        first = in_a;
        other = subst P from in_b;
        next = subst R on (subst Q same in_d);
      }

  pub exits_kept_or_not : Decided (KeepsExits g (IsIn set))
  exits_kept_or_not = elim all_exit_or_not [
    | inl all ↦ inl (λ s lost by t u w d at out.
        all (arc s lost t) d.first (arc s by u) d.other (arc u lost w) d.next
        (d.non_input, (d.apart, (refl, (refl, refl)))) at out)
    | inr not_all ↦ inr (λ keeps. not_all (λ a in_a b in_b d in_d meets at out.
        keeps a.from a.event b.event a.to b.to d.to (to_diamond a b d in_a in_b in_d meets) at out))
  ]

  pub may_switch_or_not : Decided (MaySwitch g (IsIn set))
  may_switch_or_not = elim (both closed_or_not exits_kept_or_not) [
    | inl is ↦ inl (record { inputs = is.0; exits = is.1 })
    | inr none ↦ inr (λ is. none (is.inputs, is.exits))
  ]
