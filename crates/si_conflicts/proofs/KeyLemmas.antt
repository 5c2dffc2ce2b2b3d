-- The keys of states tell which two are a conflict.
use Rattle.std.proofs.Common.{◌≡◌, ◌≢◌, ℕ, zero, suc, ◌+◌, ◌<◌, ◌≤◌, ◌==◌, ◌⊎◌, ◌↔◌, Bool, true, false, not, List, []}
use Rattle.std.proofs.Common.{◌∷◌, ◌++◌, length, get_or, Contains, refl, sym, ap, subst, ◌∙◌, arith, inl, inr, eqb-true}
use Rattle.std.proofs.Common.{eq-eqb}
use Rattle.std.proofs.lemmas.Bool.{cases_Bool, cases_eq, cases_lt, and_parts, and_from, true≢false}
use Rattle.std.proofs.lemmas.List.{get_or_default, get_or_push, get_or_append_left}
use Rattle.si_base.specs.declared.ids.Event.{Event}
use Rattle.si_base.specs.declared.graph.Edge.{Edge}
use Rattle.si_base.specs.Bits.{bit, IsSet}
use Rattle.si_base.specs.Graph.{StateGraph, Step, IsNonInput, arc, enables}
use Rattle.si_base.specs.Codes.{CodedGraph, AreValues, code}
use Rattle.si_base.specs.Proper.{IsConflict}
use Rattle.si_base.proofs.BitFacts.{same_codes}
use Rattle.si_base.proofs.StepCodes.{old_value, signal_there}
use Rattle.si_base.proofs.GraphSteps.{enables-step, step_from_enables}
use Rattle.si_base.proofs.Booleans.{same_not}
use Rattle.si_graph.specs.Loops.Arcs.{AreOut}
use Rattle.si_checks.specs.Loops.Searches.{Differ}
use Rattle.si_conflicts.specs.declared.keys.Key.{Key}
use Rattle.si_conflicts.specs.Loops.Keys.{IsExcitedNonInput, AreExcited, IsKey, clashes, key_at, no_key}

-- ---- the signals of those of the first n arcs that are P
abbrev pub ExcitedTo : (Edge → Type 0) → List Edge → ℕ → ℕ → Type 0
ExcitedTo P arcs n excited = (z : ℕ) → (bit excited z ≡ true)
    ↔ ((j : ℕ) × (a : Edge) × (j < n) × (j < length arcs) × (get_or arcs j a ≡ a)
    × P a × (a.event.sig ≡ z))

-- the arc is of a non-input
abbrev pub IsDrivenArc : StateGraph → Edge → Type 0
IsDrivenArc g a = IsNonInput g.signals a.event.sig

module _ (P : Edge → Type 0) (arcs : List Edge) (k : ℕ) (a : Edge) (old : ℕ) (inside : k < length arcs)
    (at : a ≡ get_or arcs k a) (x : ExcitedTo P arcs k old) where
  later : (z : ℕ) → bit old z ≡ true → (j : ℕ) × (b : Edge) × (j < k + 1) × (j < length arcs) × (get_or arcs j b ≡ b)
      × P b × (b.event.sig ≡ z)
  later z is = let b = (x z).0 is in (b.0, b.1, (let l = b.2 in omega arith), b.3, b.4, b.5, b.6)

  earlier : (z : ℕ) → ((j : ℕ) × (b : Edge) × (j < k + 1) × (j < length arcs) × (get_or arcs j b ≡ b)
      × P b × (b.event.sig ≡ z))
      → (bit old z ≡ true) ⊎ (P a × (a.event.sig ≡ z))
  earlier z (j, b, below, within, is, non_input, same) = elim (cases_eq j k) [
    | inl here ↦ (
        let b_is : b ≡ a =
        sym (subst (λ i. get_or arcs i b ≡ b) here is) ∙ get_or_default arcs k b a inside ∙ sym at in
        let Q : Edge → Type 0 = λ e. P e × (e.event.sig ≡ z) in
        inr (subst Q b_is (non_input, same)))
    | inr other ↦ inl ((x z).1 (j, b, omega arith, within, is, non_input, same))
  ]

  pub excited_more : (new : ℕ) → P a → IsSet old a.event.sig true new
      → ExcitedTo P arcs (k + 1) new
  excited_more new non_input set z = (
    λ is. elim (cases_eq z a.event.sig) [
      | inl same ↦ (k, a, omega arith, inside, sym at, non_input, sym same)
      | inr other ↦ later z (sym (set.others z other) ∙ is)
    ],
    λ found. elim (cases_eq z a.event.sig) [
      | inl same ↦ ap (λ y. bit new y) same ∙ set.there
      | inr other ↦ elim (earlier z found) [
        | inl old_is ↦ set.others z other ∙ old_is
        | inr here ↦ absurd (other (sym here.1))
      ]
    ],
  )

  pub excited_pass : (P a → ⊥) → ExcitedTo P arcs (k + 1) old
  excited_pass input z = (
    λ is. later z is,
    λ found. elim (earlier z found) [ inl is ↦ is | inr here ↦ absurd (input here.0) ],
  )

pub excited_all : (g : StateGraph) (s : ℕ) (arcs : List Edge) (n excited : ℕ) → AreOut g s arcs → length arcs ≤ n
    → ExcitedTo (IsDrivenArc g) arcs n excited → AreExcited g s excited
excited_all g s arcs n excited out all x z = (
  λ is. (
      let found = (x z).0 is in
      switches found.1 (found.0, found.3, found.4) found.5 found.6),
  λ is. (
      let step = step_from_enables g s (record { sig = z; up = is.up }) is.enabled in
      let a = arc s (record { sig = z; up = is.up }) step.0 in
      let place = (out.exactly a).1 (step.1, refl) in
      (x z).1 (place.0, a, (let l = place.1 in omega arith), place.1, place.2, is.non_input, refl)),
)
  where
    switches : (a : Edge) → Contains arcs a → IsNonInput g.signals a.event.sig → a.event.sig ≡ z
        → IsExcitedNonInput g s z
    switches a there non_input same =
        let of = (out.exactly a).0 there in
        let step : Step g s a.event a.to = subst (λ (v : ℕ). Step g v a.event a.to) of.1 of.0 in
        subst (λ y. IsExcitedNonInput g s y) same
        (record { non_input = non_input; up = a.event.up; enabled = enables-step g s a.event a.to step })

-- ---- which keys clash
-- the codes are values of each signal
abbrev pub HaveValues : CodedGraph → Type 0
HaveValues c = (a : ℕ) → a < length c.graph.signals → AreValues c.graph a (λ s. bit (code c s) a)

-- an enabled event of a signal tells its value
value_at : (c : CodedGraph) (s z : ℕ) (up : Bool) → HaveValues c → z < length c.graph.signals
    → enables c.graph s (record { sig = z; up = up }) ≡ true → bit (code c s) z ≡ not up
value_at c s z up values within on =
    let step = step_from_enables c.graph s (record { sig = z; up = up }) on in
    old_value c.graph z (λ t. bit (code c t) z) s step.0 up (values z within) step.1

-- the first place below k at which two numbers have different bits, if there is one
other_bit : (m n k : ℕ) → ((z : ℕ) → z < k → bit m z ≡ bit n z) ⊎ ((z : ℕ) × (bit m z ≡ bit n z → ⊥))
other_bit m n zero = inl (λ z below. absurd (omega arith))
other_bit m n (suc k) = elim (other_bit m n k) [
  | inr found ↦ inr found
  | inl all ↦ elim (cases_Bool (bit m k)) [
    | inl one ↦ elim (cases_Bool (bit n k)) [
      | inl also ↦ inl (λ z below. at z below all (one ∙ sym also))
      | inr none ↦ inr (k, λ same. true≢false (sym one ∙ same ∙ none))
    ]
    | inr none ↦ elim (cases_Bool (bit n k)) [
      | inl one ↦ inr (k, λ same. true≢false (sym one ∙ sym same ∙ none))
      | inr also ↦ inl (λ z below. at z below all (none ∙ sym also))
    ]
  ]
]
  where
    at : (z : ℕ) → z < suc k → ((y : ℕ) → y < k → bit m y ≡ bit n y) → bit m k ≡ bit n k → bit m z ≡ bit n z
    at z below all here = elim (cases_eq z k) [
      | inl same ↦ subst (λ y. bit m y ≡ bit n y) (sym same) here
      | inr other ↦ all z (omega arith)
    ]

module _ (c : CodedGraph) (coded : HaveValues c) where
  -- what p enables q enables too
  carries : (p q : ℕ) (x y : Key) → IsKey c p x → IsKey c q y → x.excited ≡ y.excited → code c p ≡ code c q
      → (e : Event)
      → IsNonInput c.graph.signals e.sig → enables c.graph p e ≡ true → enables c.graph q e ≡ true
  carries p q x y is_x is_y same codes e non_input on =
      let here = (is_x.excited_are e.sig).1 (record { non_input = non_input; up = e.up; enabled = on }) in
      let there = (is_y.excited_are e.sig).0 (subst (λ n. bit n e.sig ≡ true) same here) in
      let within = signal_there c e.sig non_input in
      let one = value_at c p e.sig e.up coded within on in
      let other = value_at c q e.sig there.up coded within there.enabled in
      let up : there.up ≡ e.up =
      same_not there.up e.up (sym other ∙ ap (λ k. bit k e.sig) (sym codes) ∙ one) in
      subst (λ b. enables c.graph q (record { sig = e.sig; up = b }) ≡ true) up there.enabled

  same_agree : (p q : ℕ) (x y : Key) → IsKey c p x → IsKey c q y → x.excited ≡ y.excited → code c p ≡ code c q
      → Differ c.graph p q → ⊥
  same_agree p q x y is_x is_y same codes d = elim (cases_Bool (enables c.graph p d.event)) [
    | inl on ↦ d.differ (on ∙ sym (carries p q x y is_x is_y same codes d.event d.non_input on))
    | inr off ↦ elim (cases_Bool (enables c.graph q d.event)) [
      | inl on ↦ d.differ (carries q p y x is_y is_x (sym same) (sym codes) d.event d.non_input on ∙ sym on)
      | inr also ↦ d.differ (off ∙ sym also)
    ]
  ]

  no_switch : (s : ℕ) (x : Key) → IsKey c s x → (z : ℕ) → length c.graph.signals ≤ z → bit x.excited z ≡ false
  no_switch s x is z past = elim (cases_Bool (bit x.excited z)) [
    | inl on ↦ (let within = signal_there c z ((is.excited_are z).0 on).non_input in absurd (omega arith))
    | inr off ↦ off
  ]

  -- an event of z that p enables, where z doesn't switch at q
  differs_by : (p q : ℕ) (x y : Key) → IsKey c p x → IsKey c q y → (z : ℕ) → bit x.excited z ≡ true
      → bit y.excited z ≡ false → (e : Event) × IsNonInput c.graph.signals e.sig × (enables c.graph p e ≡ true)
      × (enables c.graph q e ≡ true → ⊥)
  differs_by p q x y is_x is_y z on off =
      let s = (is_x.excited_are z).0 on in (
        record { sig = z; up = s.up },
        s.non_input,
        s.enabled,
        λ also. true≢false
            (sym ((is_y.excited_are z).1 (record { non_input = s.non_input; up = s.up; enabled = also })) ∙ off),
      )

  apart_differ : (p q : ℕ) (x y : Key) → IsKey c p x → IsKey c q y → x.excited ≢ y.excited → Differ c.graph p q
  apart_differ p q x y is_x is_y apart =
      elim (other_bit x.excited y.excited (length c.graph.signals)) [
        | inl all ↦ absurd (apart (same_codes x.excited y.excited (λ z. elim (cases_lt z (length c.graph.signals)) [
          | inl below ↦ all z below
          | inr past ↦ no_switch p x is_x z past ∙ sym (no_switch q y is_y z past)
        ])))
        | inr found ↦ at found.0 found.1
      ]
    where
      at : (z : ℕ) → (bit x.excited z ≡ bit y.excited z → ⊥) → Differ c.graph p q
      at z other = elim (cases_Bool (bit x.excited z)) [
        | inl on ↦ elim (cases_Bool (bit y.excited z)) [
          | inl also ↦ absurd (other (on ∙ sym also))
          | inr off ↦ (
              let d = differs_by p q x y is_x is_y z on off in
              record { event = d.0; non_input = d.1; differ = λ same. d.3 (sym same ∙ d.2) })
        ]
        | inr off ↦ elim (cases_Bool (bit y.excited z)) [
          | inl on ↦ (
              let d = differs_by q p y x is_y is_x z on off in
              record { event = d.0; non_input = d.1; differ = λ same. d.3 (same ∙ d.2) })
          | inr also ↦ absurd (other (off ∙ sym also))
        ]
      ]

  -- two states of equal code are a conflict where their excited signals aren't the same
  pub apart_conflict : (p q : ℕ) (x y : Key) → IsKey c p x → IsKey c q y → p < q → q < c.graph.states
      → code c p ≡ code c q → x.excited ≢ y.excited → IsConflict c (p, q)
  apart_conflict p q x y is_x is_y order within codes apart =
      let d = apart_differ p q x y is_x is_y apart in
      record {
        order = order;
        within = within;
        same_code = codes;
        event = d.event;
        non_input = d.non_input;
        differ = d.differ;
      }

  pub same_no_conflict : (p q : ℕ) (x y : Key) → IsKey c p x → IsKey c q y → x.excited ≡ y.excited
      → IsConflict c (p, q) → ⊥
  same_no_conflict p q x y is_x is_y same is =
      same_agree p q x y is_x is_y same is.same_code
      (record { event = is.event; non_input = is.non_input; differ = is.differ })

  pub clash_conflict : (p q : ℕ) (x y : Key) → IsKey c p x → IsKey c q y → p < q → q < c.graph.states
      → clashes x y ≡ true → IsConflict c (p, q)
  clash_conflict p q x y is_x is_y order within clash =
      let parts = and_parts (x.code == y.code) (not (x.excited == y.excited)) clash in
      let codes = sym is_x.code_is ∙ eqb-true x.code y.code parts.0 ∙ is_y.code_is in
      apart_conflict p q x y is_x is_y order within codes
      (λ same. true≢false (sym (sym (ap not (eq-eqb x.excited y.excited same)) ∙ parts.1)))

  pub conflict_clash : (p q : ℕ) (x y : Key) → IsKey c p x → IsKey c q y → IsConflict c (p, q) → clashes x y ≡ true
  conflict_clash p q x y is_x is_y is =
      and_from (x.code == y.code) (not (x.excited == y.excited))
      (eq-eqb x.code y.code (is_x.code_is ∙ is.same_code ∙ sym is_y.code_is))
      (elim (cases_Bool (x.excited == y.excited)) [
        | inl same ↦ absurd (same_no_conflict p q x y is_x is_y (eqb-true x.excited y.excited same) is)
        | inr other ↦ ap not other
      ])

-- ---- the keys of the first n states, and of one more
pub keys_more : (c : CodedGraph) (n : ℕ) (keys : List Key) (x : Key) → length keys ≡ n
    → ((s : ℕ) → s < n → IsKey c s (key_at keys s)) → IsKey c n x → (s : ℕ) → s < n + 1
    → IsKey c s (key_at (keys ++ x ∷ []) s)
keys_more c n keys x count each is s below = elim (cases_eq s n) [
  | inl same ↦ (
      let last : key_at (keys ++ x ∷ []) s ≡ x =
      ap (λ i. key_at (keys ++ x ∷ []) i) (same ∙ sym count) ∙ get_or_push keys x no_key (length keys) refl in
      subst (λ k. IsKey c s k) (sym last) (subst (λ i. IsKey c i x) (sym same) is))
  | inr other ↦ (
      let before : key_at (keys ++ x ∷ []) s ≡ key_at keys s =
      get_or_append_left keys (x ∷ []) no_key s (omega (arith, count)) in
      subst (λ k. IsKey c s k) (sym before) (each s (omega arith)))
]
