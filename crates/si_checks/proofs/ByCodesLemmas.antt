-- Graphs that are proper by their codes.
use Rattle.std.proofs.Common.{◌≡◌, ◌≢◌, ℕ, ◌+◌, ◌<◌, ◌≤◌, ◌⊎◌, ◌&&◌, ◌||◌, ◌↔◌, Bool, true, false, not, List}
use Rattle.std.proofs.Common.{length, Contains, All, IsTrue, bit_xor, bit_or, refl, sym, ap, subst, ◌∙◌, arith, inl}
use Rattle.std.proofs.Common.{inr}
use Rattle.std.proofs.lemmas.Bool.{cases_eq, cases_lt, cases_Bool, true≢false}
use Rattle.std.proofs.lemmas.List.Elements.{All-contains}
use Rattle.si_base.specs.declared.ids.Event.{Event}
use Rattle.si_base.specs.declared.graph.Edge.{Edge}
use Rattle.si_base.specs.declared.graph.Signal.{Signal}
use Rattle.si_base.specs.Bits.{bit, flip, IsSet}
use Rattle.si_base.specs.Codes.{CodedGraph, IsCoded, code}
use Rattle.si_base.specs.Graph.{arc, enables, rise, fall, IsNonInput}
use Rattle.si_base.specs.Proper.{IsCommutative, IsPersistent, IsProper}
use Rattle.si_base.proofs.BitFacts.{same_codes, bit-or}
use Rattle.si_base.proofs.CodeParity.{turn}
use Rattle.si_base.proofs.StepCodes.{step_within, old_value, code_of_step, code_fits, no_bit}
use Rattle.si_base.proofs.GraphSteps.{enables-step, step_from_enables}
use Rattle.si_graph.specs.NextCodes.{IsNextCode}
use Rattle.si_graph.proofs.ValueLemmas.{bit-xor}
use Rattle.si_graph.proofs.SpreadLemmas.{flip_swap}
use Rattle.si_checks.specs.Loops.ByCodes.{HasUniqueCodes, MaySwitch, LeavesOthers, AreInputs, IsProperByCodes}

-- ---- signals that may switch
-- a value and the next one differ where the signal is enabled to rise or to fall
differ_from : (r f b : Bool) → turn (r || (b && not f)) b ≡ true → (r ≡ true) ⊎ (f ≡ true)
differ_from true f b h = inl refl
differ_from false true b h = inr refl
differ_from false false true h = cc
differ_from false false false h = cc

differ_by_rise : (r f b : Bool) → r ≡ true → b ≡ false → turn (r || (b && not f)) b ≡ true
differ_by_rise r f b rises low = rw (rises, low) refl

differ_by_fall : (r f b : Bool) → r ≡ false → f ≡ true → b ≡ true → turn (r || (b && not f)) b ≡ true
differ_by_fall r f b none falls high = rw (none, falls, high) refl

module _ (c : CodedGraph) (is : IsCoded c) where
  -- at s the signal of an enabled event has the value from which it switches
  value_at : (s : ℕ) (e : Event) → enables c.graph s e ≡ true → bit (code c s) e.sig ≡ not e.up
  value_at s e enabled =
      let found = step_from_enables c.graph s e enabled in
      let within = step_within c.graph s e found.0 is.graph_is found.1 in
      old_value c.graph e.sig (λ a. bit (code c a) e.sig) s found.0 e.up (is.values e.sig within.1) found.1

  signal_within : (s z : ℕ) → MaySwitch c.graph s z → z < length c.graph.signals
  signal_within s z (up, enabled) =
      let e : Event = record { sig = z; up = up } in
      let found = step_from_enables c.graph s e enabled in
      (step_within c.graph s e found.0 is.graph_is found.1).1

  module _ (s next : ℕ) (there : s < c.graph.states) (nexts : IsNextCode c s next) where
    changed_within : (z : ℕ) → z < length c.graph.signals → bit (bit_xor next (code c s)) z
        ≡ turn (enables c.graph s (rise z) || (bit (code c s) z && not (enables c.graph s (fall z)))) (bit (code c s) z)
    changed_within z within =
        bit-xor next (code c s) z ∙ ap (λ (v : Bool). turn v (bit (code c s) z)) (nexts.values z within)

    changed_past : (z : ℕ) → length c.graph.signals ≤ z → bit (bit_xor next (code c s)) z ≡ false
    changed_past z past = rw (
      bit-xor next (code c s) z,
      no_bit next _ z nexts.no_more past,
      no_bit (code c s) _ z (code_fits c s is there) past,
    ) refl

    from_changed : (z : ℕ) → bit (bit_xor next (code c s)) z ≡ true → MaySwitch c.graph s z
    from_changed z changed = elim (cases_lt z (length c.graph.signals)) [
      | inl within ↦ elim (differ_from _ _ _ (sym (changed_within z within) ∙ changed)) [
        | inl rises ↦ (true, rises)
        | inr falls ↦ (false, falls)
      ]
      | inr past ↦ absurd (true≢false (sym changed ∙ changed_past z past))
    ]

    changes_by : (z : ℕ) (up : Bool) → enables c.graph s (record { sig = z; up = up }) ≡ true
        → z < length c.graph.signals → bit (bit_xor next (code c s)) z ≡ true
    changes_by z true rises within =
        changed_within z within ∙ differ_by_rise _ _ _ rises (value_at s (rise z) rises)
    changes_by z false falls within = elim (cases_Bool (enables c.graph s (rise z))) [
      | inl rises ↦ absurd (true≢false (sym (value_at s (fall z) falls) ∙ value_at s (rise z) rises))
      | inr none ↦ changed_within z within ∙ differ_by_fall _ _ _ none falls (value_at s (fall z) falls)
    ]

    pub changed_is : (z : ℕ) → (bit (bit_xor next (code c s)) z ≡ true) ↔ MaySwitch c.graph s z
    changed_is z = (from_changed z, λ may. changes_by z may.0 may.1 (signal_within s z may))

  -- ---- one arc
  module _ (a : Edge) (before after inputs free : ℕ) (sets : IsSet (bit_or after inputs) a.event.sig true free)
      (at_from : (z : ℕ) → (bit before z ≡ true) ↔ MaySwitch c.graph a.from z)
      (at_to : (z : ℕ) → (bit after z ≡ true) ↔ MaySwitch c.graph a.to z)
      (are : AreInputs c.graph.signals inputs) where
    free_leaves : bit_or before free ≡ free → LeavesOthers c.graph a
    free_leaves same z other non_input may =
        let switches : bit before z ≡ true = (at_from z).1 may in
        let is_free : bit free z ≡ true =
        ap (λ (n : ℕ). bit n z) (sym same) ∙ bit-or before free z ∙ rw switches refl in
        let kept : bit (bit_or after inputs) z ≡ true = sym (sets.others z other) ∙ is_free in
        let no_input : bit inputs z ≡ false = (are z (signal_within a.from z may)).1 non_input in
        (at_to z).0 (first_of _ _ (sym (bit-or after inputs z) ∙ kept) no_input)
      where
        first_of : (u v : Bool) → (u || v) ≡ true → v ≡ false → u ≡ true
        first_of true v h none = refl
        first_of false v h none = absurd (true≢false (sym h ∙ none))

    leaves_free : LeavesOthers c.graph a → bit_or before free ≡ free
    leaves_free leaves = same_codes (bit_or before free) free
        (λ z. bit-or before free z ∙ absorbed _ _ (λ switches. is_free z ((at_from z).0 switches)))
      where
        absorbed : (u v : Bool) → (u ≡ true → v ≡ true) → (u || v) ≡ v
        absorbed true v h = sym (h refl)
        absorbed false v h = refl

        with_first : (u v : Bool) → u ≡ true → (u || v) ≡ true
        with_first u v h = rw h refl

        with_second : (u v : Bool) → v ≡ true → (u || v) ≡ true
        with_second true v h = refl
        with_second false v h = h

        is_free : (z : ℕ) → MaySwitch c.graph a.from z → bit free z ≡ true
        is_free z may = elim (cases_eq z a.event.sig) [
          | inl own ↦ rw own sets.there
          | inr other ↦ sets.others z other ∙ bit-or after inputs z ∙ elim (cases_Bool (bit inputs z)) [
            | inl input ↦ with_second _ _ input
            | inr no_input ↦ with_first _ _ ((at_to z).1
                (leaves z other ((are z (signal_within a.from z may)).0 no_input) may))
          ]
        ]

    pub free_is : (bit_or before free ≡ free) ↔ LeavesOthers c.graph a
    free_is = (free_leaves, leaves_free)

  -- ---- all arcs
  pub leaves_persist : All (LeavesOthers c.graph) c.graph.edges → IsPersistent c.graph
  leaves_persist all s e f t non_input enabled step apart = elim (cases_eq e.sig f.sig) [
    | inl own ↦ absurd (apart (same_event own))
    | inr other ↦ (
        let leaves = All-contains (LeavesOthers c.graph) c.graph.edges (arc s f t) all step in
        let may = leaves e.sig other non_input (e.up, enabled) in
        let range = step_within c.graph s f t is.graph_is step in
        let within : e.sig < length c.graph.signals = signal_within s e.sig (e.up, enabled) in
        let kept : bit (code c t) e.sig ≡ bit (code c s) e.sig =
        (is.values e.sig within).keeps s t f (λ same. other (sym same)) step in
        let way : not may.0 ≡ not e.up =
        sym (value_at t (record { sig = e.sig; up = may.0 }) may.1) ∙ kept ∙ value_at s e enabled in
        subst (λ (up : Bool). IsTrue (enables c.graph t (record { sig = e.sig; up = up }))) (same_not _ _ way) may.1)
  ]
    where
      same_not : (u v : Bool) → not u ≡ not v → u ≡ v
      same_not true true h = refl
      same_not true false h = cc
      same_not false true h = cc
      same_not false false h = refl

      same_event : e.sig ≡ f.sig → e ≡ f
      same_event own =
          let by : enables c.graph s f ≡ true = enables-step c.graph s f t step in
          let ways : not e.up ≡ not f.up =
          sym (value_at s e enabled) ∙ ap (bit (code c s)) own ∙ value_at s f by in
          λ i. record { sig = own i; up = same_not e.up f.up ways i }

  pub persist_leaves : IsPersistent c.graph → (a : Edge) → Contains c.graph.edges a → LeavesOthers c.graph a
  persist_leaves persists a there z other non_input may = (
    may.0,
    persists a.from (record { sig = z; up = may.0 }) a.event a.to non_input may.1 there
        (λ same. other (ap (λ (e : Event). e.sig) same)),
  )

  -- ---- both orders of two events lead to one code

  pub unique_commutes : HasUniqueCodes c → IsCommutative c.graph
  unique_commutes unique s a b t w u w2 first then other after =
      let one : code c w ≡ flip (flip (code c s) a.sig) b.sig =
      code_of_step c t b w is then ∙ ap (λ (k : ℕ). flip k b.sig) (code_of_step c s a t is first) in
      let two : code c w2 ≡ flip (flip (code c s) b.sig) a.sig =
      code_of_step c u a w2 is after ∙ ap (λ (k : ℕ). flip k a.sig) (code_of_step c s b u is other) in
      unique w w2 (step_within c.graph t b w is.graph_is then).2 (step_within c.graph u a w2 is.graph_is after).2
      (one ∙ flip_swap (code c s) a.sig b.sig ∙ sym two)

  pub proper_by_codes : IsProperByCodes c → IsProper c.graph
  proper_by_codes by = record {
    deterministic = is.deterministic;
    consistent = λ a within. ((λ s. bit (code c s) a), is.values a within);
    commutative = unique_commutes by.unique;
    persistent = by.persistent;
  }

-- ---- one more state with a code of its own
abbrev pub HasUniqueBelow : CodedGraph → ℕ → Type 0
HasUniqueBelow c n = (s t : ℕ) → s < n → t < n → code c s ≡ code c t → s ≡ t

-- ---- one more signal
pub record AreInputsBelow (signals : List Signal) (n inputs : ℕ) : Type 0 where
  pub told : (z : ℕ) → z < n → (bit inputs z ≡ false) ↔ IsNonInput signals z
  pub past : (z : ℕ) → n ≤ z → bit inputs z ≡ false

pub input_more : (signals : List Signal) (n old new : ℕ) → IsSet old n true new → (IsNonInput signals n → ⊥)
    → AreInputsBelow signals n old → AreInputsBelow signals (n + 1) new
input_more signals n old new sets input are = record {
  told = λ z less. elim (cases_eq z n) [
    | inl last ↦ rw last (λ low. absurd (true≢false (sym sets.there ∙ low)), λ driven. absurd (input driven))
    | inr other ↦ rw (sets.others z other) (are.told z (omega arith))
  ];
  past = λ z from. sets.others z (λ same. omega arith) ∙ are.past z (omega arith);
}

pub driven_more : (signals : List Signal) (n inputs : ℕ) → IsNonInput signals n → AreInputsBelow signals n inputs
    → AreInputsBelow signals (n + 1) inputs
driven_more signals n inputs driven are = record {
  told = λ z less. elim (cases_eq z n) [
    | inl last ↦ rw last (λ _. driven, λ _. are.past n (omega arith))
    | inr other ↦ are.told z (omega arith)
  ];
  past = λ z from. are.past z (omega arith);
}
