-- A number for each decided set of bits, and so a key for each state.
use Rattle.std.proofs.Common.{◌≡◌, ℕ, zero, suc, ◌<◌, ◌↔◌, Bool, true, false, not, List, length, Contains, refl, sym}
use Rattle.std.proofs.Common.{ap, subst, ◌∙◌, arith, inl, inr}
use Rattle.std.proofs.lemmas.Bool.{cases_eq, cases_Bool, true≢false}
use Rattle.std.proofs.lemmas.Option.{slice_get_within}
use Rattle.si_base.specs.declared.ids.Event.{Event}
use Rattle.si_base.specs.declared.graph.Edge.{Edge}
use Rattle.si_base.specs.Bits.{bit, flip}
use Rattle.si_base.specs.Graph.{StateGraph, IsNonInput, arc, enables}
use Rattle.si_base.specs.Codes.{CodedGraph, code}
use Rattle.si_base.proofs.BitFacts.{flip-same, flip-other, same_codes}
use Rattle.si_base.proofs.StepCodes.{no_bit}
use Rattle.si_checks.proofs.SearchDecisions as decide
use Rattle.si_checks.proofs.SearchDecisions.{Decided}
use Rattle.si_insert.specs.declared.partition.Class.{Class}
use Rattle.si_insert.specs.declared.partition.Class.TheVariants.{Low, Rising, High, Falling}
use Rattle.si_insert.specs.Partition.{class_of}
use Rattle.si_conflicts.specs.declared.keys.Key.{Key}
use Rattle.si_conflicts.specs.Loops.Keys.{IsExcitedNonInput, IsKey}
use Rattle.si_conflicts.specs.Loops.Apart.{Stays, AreStaying}

-- the bits of the number are the places where P holds
abbrev pub AreBits : (ℕ → Type 0) → ℕ → Type 0
AreBits P k = (z : ℕ) → (bit k z ≡ true) ↔ P z

no_zero : (z : ℕ) → bit 0 z ≡ true → ⊥
no_zero z is = true≢false (sym is ∙ no_bit 0 0 z (omega arith) (omega arith))

module _ (P : ℕ → Type 0) (decided : (z : ℕ) → Decided (P z)) where
  abbrev Below : ℕ → ℕ → Type 0
  Below n k = AreBits (λ z. P z × (z < n)) k

  last_off : (n k : ℕ) → Below n k → bit k n ≡ false
  last_off n k are = elim (cases_Bool (bit k n)) [
    | inl on ↦ absurd (let b = ((are n).0 on).1 in omega arith)
    | inr off ↦ off
  ]

  with_place : (n k : ℕ) → Below n k → P n → Below (suc n) (flip k n)
  with_place n k are here z = elim (cases_eq z n) as (λ w. (bit (flip k n) z ≡ true) ↔ (P z × (z < suc n))) [
    | inl same ↦ (
      λ is. (subst P (sym same) here, omega arith),
      λ is. ap (λ y. bit (flip k n) y) same ∙ flip-same k n ∙ ap not (last_off n k are),
    )
    | inr other ↦ (
      λ is. (let old = (are z).0 (sym (flip-other k n z other) ∙ is) in (old.0, (let b = old.1 in omega arith))),
      λ is. flip-other k n z other ∙ (are z).1 (is.0, (let b = is.1 in omega arith)),
    )
  ]

  without_place : (n k : ℕ) → Below n k → (P n → ⊥) → Below (suc n) k
  without_place n k are none z = (
    λ is. (let old = (are z).0 is in (old.0, (let b = old.1 in omega arith))),
    λ is. elim (cases_eq z n) [
      | inl same ↦ absurd (none (subst P same is.0))
      | inr other ↦ (are z).1 (is.0, (let b = is.1 in omega arith))
    ],
  )

  below : (n : ℕ) → (k : ℕ) × Below n k
  below zero = (0, λ z. (λ is. absurd (no_zero z is), λ is. absurd (let b = is.1 in omega arith)))
  below (suc n) =
      let old = below n in
      elim (decided n) [
        | inl here ↦ (flip old.0 n, with_place n old.0 old.1 here)
        | inr none ↦ (old.0, without_place n old.0 old.1 none)
      ]

  pub some_number : (n : ℕ) → ((z : ℕ) → P z → z < n) → (k : ℕ) × AreBits P k
  some_number n few =
      let found = below n in
      (found.0, λ z. (λ is. ((found.1 z).0 is).0, λ is. (found.1 z).1 (is, few z is)))

pub one_number : (P : ℕ → Type 0) (k m : ℕ) → AreBits P k → AreBits P m → k ≡ m
one_number P k m a b = same_codes k m bits
  where
    bits : (z : ℕ) → bit k z ≡ bit m z
    bits z = elim (cases_Bool (bit k z)) [
      | inl on ↦ on ∙ sym ((b z).1 ((a z).0 on))
      | inr off ↦ elim (cases_Bool (bit m z)) [
        | inl on ↦ absurd (true≢false (sym ((a z).1 ((b z).0 on)) ∙ off))
        | inr also ↦ off ∙ sym also
      ]
    ]

-- ---- the key of a state
pub driven_within : (g : StateGraph) (z : ℕ) → IsNonInput g.signals z → z < length g.signals
driven_within g z non_input = slice_get_within g.signals z non_input.0 non_input.1

event : ℕ → Bool → Event
event z up = record { sig = z; up = up }

switches : (g : StateGraph) (s z : ℕ) → Decided (IsExcitedNonInput g s z)
switches g s z = elim (decide.driven g.signals z) [
  | inr input ↦ inr (λ is. input is.non_input)
  | inl non_input ↦ elim (cases_Bool (enables g s (record { sig = z; up = true }))) [
    | inl rises ↦ inl (record { non_input = non_input; up = true; enabled = rises })
    | inr no_rise ↦ elim (cases_Bool (enables g s (record { sig = z; up = false }))) [
      | inl falls ↦ inl (record { non_input = non_input; up = false; enabled = falls })
      | inr no_fall ↦ inr (λ is. neither no_rise no_fall is.up is.enabled)
    ]
  ]
]
  where
    neither : enables g s (record { sig = z; up = true }) ≡ false
        → enables g s (record { sig = z; up = false }) ≡ false
        → (up : Bool) → enables g s (record { sig = z; up = up }) ≡ true → ⊥
    neither no_rise no_fall true on = true≢false (sym on ∙ no_rise)
    neither no_rise no_fall false on = true≢false (sym on ∙ no_fall)

pub some_key : (c : CodedGraph) (s : ℕ) → (key : Key) × IsKey c s key
some_key c s =
    let found = some_number (λ z. IsExcitedNonInput c.graph s z) (λ z. switches c.graph s z) (length c.graph.signals)
    (λ z is. driven_within c.graph z is.non_input) in
    (record { code = code c s; excited = found.0 }, record { code_is = refl; excited_are = found.1 })

pub one_key : (c : CodedGraph) (s : ℕ) (x y : Key) → IsKey c s x → IsKey c s y → x ≡ y
one_key c s x y a b =
    let codes = a.code_is ∙ sym b.code_is in
    let excited = one_number (λ z. IsExcitedNonInput c.graph s z) x.excited y.excited a.excited_are b.excited_are in
    λ i. record { code = codes i; excited = excited i }

-- ---- what stays excited within a class
same_class : (c d : Class) → Decided (c ≡ d)
same_class Low Low = inl refl
same_class Low Rising = inr (λ (e : Low ≡ Rising). cc)
same_class Low High = inr (λ (e : Low ≡ High). cc)
same_class Low Falling = inr (λ (e : Low ≡ Falling). cc)
same_class Rising Low = inr (λ (e : Rising ≡ Low). cc)
same_class Rising Rising = inl refl
same_class Rising High = inr (λ (e : Rising ≡ High). cc)
same_class Rising Falling = inr (λ (e : Rising ≡ Falling). cc)
same_class High Low = inr (λ (e : High ≡ Low). cc)
same_class High Rising = inr (λ (e : High ≡ Rising). cc)
same_class High High = inl refl
same_class High Falling = inr (λ (e : High ≡ Falling). cc)
same_class Falling Low = inr (λ (e : Falling ≡ Low). cc)
same_class Falling Rising = inr (λ (e : Falling ≡ Rising). cc)
same_class Falling High = inr (λ (e : Falling ≡ High). cc)
same_class Falling Falling = inl refl

-- the arc is one of z that leads from s to a state of its class
abbrev StaysBy : List Class → ℕ → ℕ → Edge → Type 0
StaysBy classes s z a = (a.from ≡ s) × ((a.event.sig ≡ z) × (class_of classes a.to ≡ class_of classes s))

stays_by : (classes : List Class) (s z : ℕ) (a : Edge) → Decided (StaysBy classes s z a)
stays_by classes s z a =
    decide.both (cases_eq a.from s)
    (decide.both (cases_eq a.event.sig z) (same_class (class_of classes a.to) (class_of classes s)))

stays : (g : StateGraph) (classes : List Class) (s z : ℕ) → Decided (Stays g classes s z)
stays g classes s z = elim (decide.driven g.signals z) [
  | inr input ↦ inr (λ is. input is.non_input)
  | inl non_input ↦ elim (decide.some_of (StaysBy classes s z) (stays_by classes s z) g.edges) [
    | inl (a, there, of) ↦ inl (record {
      non_input = non_input;
      up = a.event.up;
      to = a.to;
      step = subst (λ x. Contains g.edges x) (same_arc a of.0 of.1.0) there;
      class = of.1.1;
    })
    | inr none ↦ inr (λ is.
        none (arc s (record { sig = z; up = is.up }) is.to, is.step, (refl, (refl, is.class))))
  ]
]
  where
    same_arc : (a : Edge) → a.from ≡ s → a.event.sig ≡ z → a ≡ arc s (record { sig = z; up = a.event.up }) a.to
    same_arc a from sig i =
        record { from = from i; event = record { sig = sig i; up = a.event.up }; to = a.to }

pub some_staying : (g : StateGraph) (classes : List Class)
    → (staying : ℕ → ℕ) × ((s : ℕ) → AreStaying g classes s (staying s))
some_staying g classes = ((λ s. (at s).0), (λ s. (at s).1))
  where
    at : (s : ℕ) → (k : ℕ) × AreStaying g classes s k
    at s = some_number (λ z. Stays g classes s z) (λ z. stays g classes s z) (length g.signals)
        (λ z is. driven_within g z is.non_input)

pub one_staying : (g : StateGraph) (classes : List Class) (s k m : ℕ) → AreStaying g classes s k
    → AreStaying g classes s m → k ≡ m
one_staying g classes s k m a b = one_number (λ z. Stays g classes s z) k m a b
