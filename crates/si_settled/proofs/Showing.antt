-- What the cubes show is forced.
use Rattle.std.proofs.Common.{◌≡◌, ℕ, ◌⊎◌, ◌&&◌, ◌||◌, ◌==◌, not, Bool, true, false, List, [], ◌∷◌, refl, sym, ap, ◌∙◌}
use Rattle.std.proofs.Common.{arith, Contains, inl, inr, Option, Some, None, slice_get, eqb-true, eq-eqb}
use Rattle.std.proofs.lemmas.Bool.{true≢false, and_parts, and_from}
use Rattle.std.specs.List.{list_any, list_all}
use mathlib.Core.Bool.{beq}
use Rattle.si_base.specs.declared.ids.Literal.{Literal}
use Rattle.si_base.specs.Bits.{bit}
use Rattle.si_base.specs.Netlist.{Netlist, Gate, SumGate, Gc, Cell, Sum, gate_place, value_of, value_if_there}
use Rattle.si_base.specs.Netlist.{literal_value, sum_value}
use Rattle.si_settled.specs.Settling.{Agrees, IsForced, IsShown, is_among, shows_one, shows_zero, sum_shows, gate_shows}
use Rattle.si_settled.specs.Settling.{shows_if_there, SettlesBy}
use Rattle.si_settled.proofs.Rounding.{tail_there, there_cases}

or_parts : (a b : Bool) → (a || b) ≡ true → (a ≡ true) ⊎ (b ≡ true)
or_parts true b h = inl refl
or_parts false b h = inr h

or_left : (a b : Bool) → a ≡ true → (a || b) ≡ true
or_left true b h = refl
or_left false b h = absurd (true≢false (sym h))

or_right : (a b : Bool) → b ≡ true → (a || b) ≡ true
or_right true b h = refl
or_right false b h = h

or_none : (a b : Bool) → a ≡ false → b ≡ false → (a || b) ≡ false
or_none true b h k = absurd (true≢false h)
or_none false b h k = k

and_left : (a b : Bool) → a ≡ false → (a && b) ≡ false
and_left true b h = absurd (true≢false h)
and_left false b h = refl

and_right : (a b : Bool) → b ≡ false → (a && b) ≡ false
and_right true b h = h
and_right false b h = refl

not_true : (a : Bool) → not a ≡ true → a ≡ false
not_true true h = absurd (true≢false (sym h))
not_true false h = refl

pub among_there : (known : List ℕ) (z : ℕ) → is_among known z ≡ true → Contains known z
among_there [] z h = absurd (true≢false (sym h))
among_there (y ∷ ys) z h = elim (or_parts (y == z) (is_among ys z) h) [
  | inl same ↦ (0, omega arith, eqb-true y z same)
  | inr later ↦ tail_there y z ys (among_there ys z later)
]

pub there_among : (known : List ℕ) (z : ℕ) → Contains known z → is_among known z ≡ true
there_among [] z h = absurd (omega (arith, h.1))
there_among (y ∷ ys) z h = elim (there_cases y z ys h) [
  | inl same ↦ or_left (y == z) (is_among ys z) (eq-eqb y z (sym same))
  | inr later ↦ or_right (y == z) (is_among ys z) (there_among ys z later)
]

-- a known literal has its start value
literal_known : (n : Netlist) (known : List ℕ) (w : ℕ) (l : Literal) → Agrees n known w → is_among known l.sig ≡ true
    → literal_value w l ≡ literal_value n.start l
literal_known n known w l agrees there = ap (λ (b : Bool). beq b l.plain) (agrees l.sig (among_there known l.sig there))

cube_one : (n : Netlist) (known : List ℕ) (w : ℕ) (cube : List Literal) → Agrees n known w
    → list_all (λ l. is_among known l.sig && literal_value n.start l) cube ≡ true
    → list_all (literal_value w) cube ≡ true
cube_one n known w [] agrees h = refl
cube_one n known w (l ∷ cube) agrees h =
    let parts = and_parts (is_among known l.sig && literal_value n.start l) _ h in
    let one = and_parts (is_among known l.sig) (literal_value n.start l) parts.0 in
    and_from _ _ (literal_known n known w l agrees one.0 ∙ one.1) (cube_one n known w cube agrees parts.1)

cube_zero : (n : Netlist) (known : List ℕ) (w : ℕ) (cube : List Literal) → Agrees n known w
    → list_any (λ l. is_among known l.sig && not (literal_value n.start l)) cube ≡ true
    → list_all (literal_value w) cube ≡ false
cube_zero n known w [] agrees h = absurd (true≢false (sym h))
cube_zero n known w (l ∷ cube) agrees h =
    elim (or_parts (is_among known l.sig && not (literal_value n.start l)) _ h) [
      | inl here ↦
          (let one = and_parts (is_among known l.sig) (not (literal_value n.start l)) here in
          and_left _ _ (literal_known n known w l agrees one.0 ∙ not_true _ one.1))
      | inr later ↦ and_right _ _ (cube_zero n known w cube agrees later)
    ]

sum_one : (n : Netlist) (known : List ℕ) (w : ℕ) (sum : Sum) → Agrees n known w → shows_one (is_among known) n.start sum ≡ true
    → sum_value w sum ≡ true
sum_one n known w [] agrees h = absurd (true≢false (sym h))
sum_one n known w (cube ∷ sum) agrees h =
    elim (or_parts (list_all (λ l. is_among known l.sig && literal_value n.start l) cube) _ h) [
      | inl here ↦ or_left _ _ (cube_one n known w cube agrees here)
      | inr later ↦ or_right _ _ (sum_one n known w sum agrees later)
    ]

sum_zero : (n : Netlist) (known : List ℕ) (w : ℕ) (sum : Sum) → Agrees n known w → shows_zero (is_among known) n.start sum ≡ true
    → sum_value w sum ≡ false
sum_zero n known w [] agrees h = refl
sum_zero n known w (cube ∷ sum) agrees h =
    let parts = and_parts (list_any (λ l. is_among known l.sig && not (literal_value n.start l)) cube) _ h in
    or_none _ _ (cube_zero n known w cube agrees parts.0) (sum_zero n known w sum agrees parts.1)

sum_is : (n : Netlist) (known : List ℕ) (w : ℕ) (sum : Sum) (v : Bool) → Agrees n known w
    → sum_shows (is_among known) n.start sum v ≡ true → sum_value w sum ≡ v
sum_is n known w sum true agrees h = sum_one n known w sum agrees h
sum_is n known w sum false agrees h = sum_zero n known w sum agrees h

gc_one : (set q reset : Bool) → set ≡ true → (set || (q && not reset)) ≡ true
gc_one true q reset h = refl
gc_one false q reset h = absurd (true≢false (sym h))

gc_zero : (set q reset : Bool) → set ≡ false → reset ≡ true → (set || (q && not reset)) ≡ false
gc_zero true q reset h k = absurd (true≢false h)
gc_zero false true true h k = refl
gc_zero false false true h k = refl
gc_zero false q false h k = absurd (true≢false (sym k))

gate_is : (n : Netlist) (known : List ℕ) (w z : ℕ) (gate : Gate) (v : Bool) → Agrees n known w
    → gate_shows (is_among known) n.start gate v ≡ true → value_of gate z w ≡ v
gate_is n known w z (SumGate sum) v agrees h = sum_is n known w sum v agrees h
gate_is n known w z (Gc set reset) true agrees h = gc_one _ _ _ (sum_one n known w set agrees h)
gate_is n known w z (Gc set reset) false agrees h =
    let parts = and_parts (shows_zero (is_among known) n.start set) (shows_one (is_among known) n.start reset) h in
    gc_zero _ _ _ (sum_zero n known w set agrees parts.0) (sum_one n known w reset agrees parts.1)
gate_is n known w z (Cell name literals sum) v agrees h = sum_is n known w sum v agrees h

there_is : (n : Netlist) (known : List ℕ) (w z : ℕ) (o : Option Gate) (v : Bool) → Agrees n known w
    → shows_if_there (is_among known) n.start o v ≡ true → value_if_there o z w ≡ v
there_is n known w z None v agrees h = absurd (true≢false (sym h))
there_is n known w z (Some gate) v agrees h = gate_is n known w z gate v agrees h

pub shown_are_forced : (n : Netlist) (known : List ℕ) (z : ℕ) → IsShown n known z → IsForced n known z
shown_are_forced n known z shown w agrees =
    there_is n known w z (slice_get n.gates (gate_place n.signals z)) (bit n.start z) agrees shown

-- ---- where more is known, more is shown
abbrev Within : List ℕ → List ℕ → Type 0
Within known more = (z : ℕ) → Contains known z → Contains more z

among_more : (known more : List ℕ) (z : ℕ) → Within known more → is_among known z ≡ true → is_among more z ≡ true
among_more known more z within h = there_among more z (within z (among_there known z h))

all_more : (known more : List ℕ) (p : Literal → Bool) (cube : List Literal) → Within known more
    → list_all (λ l. is_among known l.sig && p l) cube ≡ true → list_all (λ l. is_among more l.sig && p l) cube ≡ true
all_more known more p [] within h = refl
all_more known more p (l ∷ cube) within h =
    let parts = and_parts (is_among known l.sig && p l) _ h in
    let one = and_parts (is_among known l.sig) (p l) parts.0 in
    and_from _ _ (and_from _ _ (among_more known more l.sig within one.0) one.1) (all_more known more p cube within parts.1)

any_more : (known more : List ℕ) (p : Literal → Bool) (cube : List Literal) → Within known more
    → list_any (λ l. is_among known l.sig && p l) cube ≡ true → list_any (λ l. is_among more l.sig && p l) cube ≡ true
any_more known more p [] within h = absurd (true≢false (sym h))
any_more known more p (l ∷ cube) within h = elim (or_parts (is_among known l.sig && p l) _ h) [
  | inl here ↦
      (let one = and_parts (is_among known l.sig) (p l) here in
      or_left _ _ (and_from _ _ (among_more known more l.sig within one.0) one.1))
  | inr later ↦ or_right _ _ (any_more known more p cube within later)
]

one_more : (known more : List ℕ) (start : ℕ) (sum : Sum) → Within known more → shows_one (is_among known) start sum ≡ true
    → shows_one (is_among more) start sum ≡ true
one_more known more start [] within h = absurd (true≢false (sym h))
one_more known more start (cube ∷ sum) within h =
    elim (or_parts (list_all (λ l. is_among known l.sig && literal_value start l) cube) _ h) [
      | inl here ↦ or_left _ _ (all_more known more (literal_value start) cube within here)
      | inr later ↦ or_right _ _ (one_more known more start sum within later)
    ]

zero_more : (known more : List ℕ) (start : ℕ) (sum : Sum) → Within known more → shows_zero (is_among known) start sum ≡ true
    → shows_zero (is_among more) start sum ≡ true
zero_more known more start [] within h = refl
zero_more known more start (cube ∷ sum) within h =
    let parts = and_parts (list_any (λ l. is_among known l.sig && not (literal_value start l)) cube) _ h in
    and_from _ _ (any_more known more (λ l. not (literal_value start l)) cube within parts.0)
    (zero_more known more start sum within parts.1)

sum_more : (known more : List ℕ) (start : ℕ) (sum : Sum) (v : Bool) → Within known more
    → sum_shows (is_among known) start sum v ≡ true → sum_shows (is_among more) start sum v ≡ true
sum_more known more start sum true within h = one_more known more start sum within h
sum_more known more start sum false within h = zero_more known more start sum within h

gate_more : (known more : List ℕ) (start : ℕ) (gate : Gate) (v : Bool) → Within known more
    → gate_shows (is_among known) start gate v ≡ true → gate_shows (is_among more) start gate v ≡ true
gate_more known more start (SumGate sum) v within h = sum_more known more start sum v within h
gate_more known more start (Gc set reset) true within h = one_more known more start set within h
gate_more known more start (Gc set reset) false within h =
    let parts = and_parts (shows_zero (is_among known) start set) (shows_one (is_among known) start reset) h in
    and_from _ _ (zero_more known more start set within parts.0) (one_more known more start reset within parts.1)
gate_more known more start (Cell name literals sum) v within h = sum_more known more start sum v within h

there_more : (known more : List ℕ) (start : ℕ) (o : Option Gate) (v : Bool) → Within known more
    → shows_if_there (is_among known) start o v ≡ true → shows_if_there (is_among more) start o v ≡ true
there_more known more start None v within h = h
there_more known more start (Some gate) v within h = gate_more known more start gate v within h

within_more : (known more : List ℕ) (z : ℕ) → Within known more → Within (z ∷ known) (z ∷ more)
within_more known more z within a there = elim (there_cases z a known there) [
  | inl same ↦ (0, omega arith, sym same)
  | inr old ↦ tail_there z a more (within a old)
]

pub shown_more : (n : Netlist) (known more : List ℕ) (z : ℕ) → ((a : ℕ) → Contains known a → Contains more a)
    → IsShown n known z → IsShown n more z
shown_more n known more z within shown =
    there_more known more n.start (slice_get n.gates (gate_place n.signals z)) (bit n.start z) within shown

pub more_held_settle : (n : Netlist) (held more order : List ℕ) → ((z : ℕ) → Contains held z → Contains more z)
    → SettlesBy IsShown n held order → SettlesBy IsShown n more order
more_held_settle n held more [] within settles = λ a small. within a (settles a small)
more_held_settle n held more (z ∷ order) within settles = (
  settles.0,
  there_more held more n.start (slice_get n.gates (gate_place n.signals z)) (bit n.start z) within settles.1,
  more_held_settle n (z ∷ held) (z ∷ more) order (within_more held more z within) settles.2,
)
