-- The codes of wires: no two signals have one, and each is of visible bytes.
use Rattle.std.proofs.Common.{◌≡◌, ℕ, ◌+◌, ◌-◌, ◌<◌, ◌≤◌, true, false, List, [], ◌∷◌, length, get_or, nat_lt}
use Rattle.std.proofs.Common.{refl, sym, ap, ◌∙◌, arith, inl, inr, IsTrue, bytes_eq}
use Rattle.std.proofs.lemmas.Bool.{cases_Bool, le-leb, ltb-false, ltb-true}
use Rattle.std.proofs.lemmas.Slice.Eq.{bytes_eq-Decides}
use Rattle.std.specs.List.{list_all}
use Rattle.si_base.specs.Bytes.{first_visible, tilde}
use Rattle.si_base.specs.Words.{is_between}
use Rattle.si_wave.specs.Wave.{wire_code, visible_bytes}

short : (k : ℕ) → nat_lt k visible_bytes ≡ true → wire_code k ≡ (first_visible + k) ∷ []
short k is = rw is refl

long : (k : ℕ) → nat_lt k visible_bytes ≡ false
    → wire_code k ≡ first_visible ∷ (first_visible + (k - visible_bytes)) ∷ []
long k is = rw is refl

pub codes_apart : (a b : ℕ) → wire_code a ≡ wire_code b → a ≡ b
codes_apart a b same = elim (cases_Bool (nat_lt a visible_bytes)) [
  | inl a_short ↦ elim (cases_Bool (nat_lt b visible_bytes)) [
    | inl b_short ↦
        let bytes = ap (λ (c : List ℕ). get_or c 0 0) (sym (short a a_short) ∙ same ∙ short b b_short) in
        omega (arith, bytes)
    | inr b_long ↦
        let lengths = ap (λ (c : List ℕ). length c) (sym (short a a_short) ∙ same ∙ long b b_long) in
        absurd (omega (arith, lengths))
  ]
  | inr a_long ↦ elim (cases_Bool (nat_lt b visible_bytes)) [
    | inl b_short ↦
        let lengths = ap (λ (c : List ℕ). length c) (sym (long a a_long) ∙ same ∙ short b b_short) in
        absurd (omega (arith, lengths))
    | inr b_long ↦
        let bytes = ap (λ (c : List ℕ). get_or c 1 0) (sym (long a a_long) ∙ same ∙ long b b_long) in
        let a_many : visible_bytes ≤ a = ltb-false a visible_bytes a_long in
        let b_many : visible_bytes ≤ b = ltb-false b visible_bytes b_long in
        omega (arith, bytes, a_many, b_many)
  ]
]

pub same_code : (a : ℕ) → bytes_eq (wire_code a) (wire_code a) ≡ true
same_code a = (bytes_eq-Decides (wire_code a) (wire_code a)).1 refl

pub other_code : (a b : ℕ) → (b ≡ a → ⊥) → bytes_eq (wire_code b) (wire_code a) ≡ false
other_code a b apart = elim (cases_Bool (bytes_eq (wire_code b) (wire_code a))) [
  | inl same ↦ absurd (apart (codes_apart b a ((bytes_eq-Decides (wire_code b) (wire_code a)).0 same)))
  | inr other ↦ other
]

-- `!` and the bytes after it, up to `~`
between : (k : ℕ) → k < visible_bytes → is_between first_visible tilde (first_visible + k) ≡ true
between k few = rw (
  le-leb first_visible (first_visible + k) (omega arith),
  le-leb (first_visible + k) tilde (omega arith),
) refl

pub codes_visible : (k : ℕ) → k < 128 → IsTrue (list_all (is_between first_visible tilde) (wire_code k))
codes_visible k few = elim (cases_Bool (nat_lt k visible_bytes)) [
  | inl is ↦ rw (short k is, between k (ltb-true k visible_bytes is)) refl
  | inr is ↦ rw (long k is, between (k - visible_bytes) (omega (arith, ltb-false k visible_bytes is))) refl
]

-- each has a byte
pub code_some : (k : ℕ) → nat_lt 0 (length (wire_code k)) ≡ true
code_some k = elim (cases_Bool (nat_lt k visible_bytes)) [
  | inl is ↦ rw (short k is) refl
  | inr is ↦ rw (long k is) refl
]
