-- Cubes that are built one literal after the other, and their literals in literal order.
use Rattle.std.proofs.Common.{◌≡◌, ℕ, zero, suc, ◌+◌, ◌&&◌, ◌||◌, Bool, true, false, List, [], ◌∷◌, ◌++◌}
use Rattle.std.proofs.Common.{filter, if◌then◌else◌, refl, sym, ◌∙◌, inl, inr}
use Rattle.std.proofs.lemmas.Bool.{true≢false}
use Rattle.std.proofs.lemmas.Bool.Decides.{eqb_tells}
use Rattle.std.proofs.lemmas.List.Folds.{list_any-append}
use Rattle.std.proofs.lemmas.Nat.Bits.{bit_at-zero}
use Rattle.std.proofs.Math.Bool.{or-false}
use mathlib.Core.Bool.{beq}
use Rattle.si_base.specs.Bits.{bit, IsSet}
use Rattle.si_base.specs.Limits.{code_width}
use Rattle.si_base.specs.declared.ids.Literal.{Literal}
use Rattle.si_cube.specs.Literals.{literals_from, literals_of, IsWithin}
use Rattle.si_cell.specs.Literals.{same_literal, has_literal, both_from, in_literal_order}

-- these literals make the cube of this care and these values
pub record Makes (literals : List Literal) (care value : ℕ) : Type 0 where
  pub holds : (l : Literal) → has_literal literals l ≡ (bit care l.sig && beq (bit value l.sig) l.plain)
  pub within : IsWithin care value

pub makes_none : Makes [] 0 0
makes_none = record {
  holds = λ l. rw (bit_at-zero l.sig) refl;
  within = λ i there. absurd (true≢false (sym there ∙ rw (bit_at-zero i) refl));
}

either : (there one plain other : Bool) → (there ≡ true → one ≡ plain) → ((there && beq one other)
    || beq other plain) ≡ (true && beq plain other)
either true one plain other same = rw (same refl) (by_bits plain other)
  where
    by_bits : (a b : Bool) → (beq a b || beq b a) ≡ beq a b
    by_bits true true = refl
    by_bits true false = refl
    by_bits false true = refl
    by_bits false false = refl
either false one plain other same = by_bits plain other
  where
    by_bits : (a b : Bool) → beq b a ≡ beq a b
    by_bits true true = refl
    by_bits true false = refl
    by_bits false true = refl
    by_bits false false = refl

-- one more literal, which its complement doesn't precede
pub makes_more : (literals : List Literal) (m : Literal) (care value care2 value2 : ℕ) → Makes literals care value
    → (bit care m.sig ≡ true → bit value m.sig ≡ m.plain) → IsSet care m.sig true care2
    → IsSet value m.sig m.plain value2
    → Makes (literals ++ m ∷ []) care2 value2
makes_more literals m care value care2 value2 made agree s t = record {
  holds = λ l. list_any-append (same_literal l) literals (m ∷ []) ∙ rw (made.holds l) (by_sig l);
  within = λ i on. elim (eqb_tells i m.sig) [
    | inl same ↦ rw same.1 s.there
    | inr other ↦ s.others i other.1 ∙ made.within i (sym (t.others i other.1) ∙ on)
  ];
}
  where
    by_sig : (l : Literal) → ((bit care l.sig && beq (bit value l.sig) l.plain) || (same_literal l m
        || false)) ≡ (bit care2 l.sig && beq (bit value2 l.sig) l.plain)
    by_sig l = elim (eqb_tells l.sig m.sig) [
      | inl same ↦ rw (or-false (same_literal l m), same.0, same.1, s.there, t.there) (either (bit care m.sig)
          (bit value m.sig) m.plain l.plain agree)
      | inr other ↦ rw (other.0, s.others l.sig other.1, t.others l.sig other.1) (or-false (bit care l.sig
          && beq (bit value l.sig) l.plain))
    ]

in_order_from : (literals : List Literal) (care value : ℕ) → Makes literals care value → (n i : ℕ)
    → literals_from n i care value ≡ filter (has_literal literals) (both_from n i)
in_order_from literals care value made zero i = refl
in_order_from literals care value made (suc n) i =
    step (bit care i) (bit value i) (has_literal literals (record { sig = i; plain = true })) (has_literal literals
    (record { sig = i; plain = false }))
    (made.holds (record { sig = i; plain = true })) (made.holds (record { sig = i; plain = false }))
    (in_order_from literals care value made n (i + 1))
  where
    step : {rest left : List Literal} (there one has_plain has_complemented : Bool) → has_plain ≡ (there
        && beq one true)
        → has_complemented ≡ (there && beq one false) → rest ≡ left
        → (if there then record { sig = i; plain = one } ∷ rest else rest)
        ≡ (if has_plain then record { sig = i; plain = true } ∷
        (if has_complemented then record { sig = i; plain = false } ∷ left else left)
        else (if has_complemented then record { sig = i; plain = false } ∷ left else left))
    step true true p c e f same = rw (e, f, same) refl
    step true false p c e f same = rw (e, f, same) refl
    step false one p c e f same = rw (e, f, same) refl

pub makes_in_order : (literals : List Literal) (care value : ℕ) → Makes literals care value
    → literals_of care value ≡ in_literal_order literals
unfolding literals_of in_literal_order
makes_in_order literals care value made = in_order_from literals care value made code_width 0
