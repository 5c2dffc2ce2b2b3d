-- Bits of words of 128.
use Rattle.std.proofs.Common.{◌≡◌, ℕ, ◌+◌, ◌-◌, ◌%◌, ◌^◌, ◌<◌, ◌==◌, ◌||◌, ◌⊎◌, ◌↔◌, not, Bool, true, false}
use Rattle.std.proofs.Common.{refl, sym, ap, ◌∙◌, inl, inr, bit_and, bit_or, bit_xor}
use Rattle.std.proofs.lemmas.Bool.{cases_lt, true≢false, and_parts, and_from, or_cases}
use Rattle.std.proofs.lemmas.Nat.Bits.{bit_at-lt, bit_at_not, bit_at_xor}
use Rattle.std.specs.Int.{bit_at, w128}
use Rattle.si_base.specs.Bits.{bit}
use Rattle.si_base.proofs.BitFacts.{below_two, bit-zero, bit-or, bit-and}
use Rattle.si_base.proofs.StepCodes.{no_bit}

one_bit : (x y : ℕ) → x < 2 → y < 2 → (((x + y) % 2 == 1) ≡ true) ↔ ((y == 1) ≡ not (x == 1))
one_bit x y lx ly = elim (below_two x lx) [
  | inl x0 ↦ elim (below_two y ly) [
    | inl y0 ↦ rw (x0, y0) (λ h. h, λ h. h)
    | inr y1 ↦ rw (x0, y1) (λ h. refl, λ h. refl)
  ]
  | inr x1 ↦ elim (below_two y ly) [
    | inl y0 ↦ rw (x1, y0) (λ h. refl, λ h. refl)
    | inr y1 ↦ rw (x1, y1) (λ h. sym h, λ h. sym h)
  ]
]

pub xor_is : (x y k : ℕ) → (bit (bit_xor x y) k ≡ true) ↔ (bit y k ≡ not (bit x k))
xor_is x y k = rw (bit_at_xor x y k) (one_bit (bit_at x k) (bit_at y k) (bit_at-lt x k) (bit_at-lt y k))

other_bit : (x : ℕ) → x < 2 → (1 - x == 1) ≡ not (x == 1)
other_bit x l = elim (below_two x l) [ inl zero ↦ rw zero refl | inr one ↦ rw one refl ]

pub not_is : (x k : ℕ) → x < 2 ^ 128 → k < 128 → bit (2 ^ 128 - 1 - x) k ≡ not (bit x k)
not_is x k fits few = ap (λ b. b == 1) (bit_at_not w128 x k fits few) ∙ other_bit (bit_at x k) (bit_at-lt x k)

-- ---- what set bits say
pub bit_few : (x k : ℕ) → x < 2 ^ 128 → bit x k ≡ true → k < 128
bit_few x k fits has = elim (cases_lt k 128) [
  | inl below ↦ below
  | inr past ↦ absurd (true≢false (sym has ∙ no_bit x 128 k fits past))
]

pub no_bit_of_none : (x k : ℕ) → x ≡ 0 → bit x k ≡ true → ⊥
no_bit_of_none x k none has = true≢false (sym has ∙ ap (λ (w : ℕ). bit w k) none ∙ bit-zero k)

pub in_and : (x y k : ℕ) → (bit (bit_and x y) k ≡ true) ↔ ((bit x k ≡ true) × (bit y k ≡ true))
in_and x y k = (
  λ h. and_parts (bit x k) (bit y k) (sym (bit-and x y k) ∙ h),
  λ (one, other). bit-and x y k ∙ and_from (bit x k) (bit y k) one other,
)

pub in_both : (x y z k : ℕ) → (bit (bit_and (bit_and x y) z) k ≡ true)
    ↔ ((bit x k ≡ true) × (bit y k ≡ true) × (bit z k ≡ true))
in_both x y z k = (
  λ h. (
      let outer = (in_and (bit_and x y) z k).0 h in
      let inner = (in_and x y k).0 outer.0 in
      (inner.0, inner.1, outer.1)),
  λ (a, b, c). (in_and (bit_and x y) z k).1 ((in_and x y k).1 (a, b), c),
)

either_one : (a b : Bool) → (a ≡ true) ⊎ (b ≡ true) → (a || b) ≡ true
either_one true b h = refl
either_one false b (inl h) = absurd (true≢false (sym h))
either_one false b (inr h) = h

pub in_or : (x y k : ℕ) → (bit (bit_or x y) k ≡ true) ↔ ((bit x k ≡ true) ⊎ (bit y k ≡ true))
in_or x y k = (
  λ h. or_cases (bit x k) (bit y k) (sym (bit-or x y k) ∙ h),
  λ h. bit-or x y k ∙ either_one (bit x k) (bit y k) h,
)

turned : (b : Bool) → (not b ≡ true) ↔ (b ≡ false)
turned true = (λ h. sym h, λ h. sym h)
turned false = (λ h. refl, λ h. refl)

pub in_not : (x k : ℕ) → x < 2 ^ 128 → k < 128 → (bit (2 ^ 128 - 1 - x) k ≡ true) ↔ (bit x k ≡ false)
in_not x k fits few = (
  λ h. (turned (bit x k)).0 (sym (not_is x k fits few) ∙ h),
  λ h. not_is x k fits few ∙ (turned (bit x k)).1 h,
)

-- those of x that aren't of y
pub in_less : (x y k : ℕ) → x < 2 ^ 128 → y < 2 ^ 128
    → (bit (bit_and x (2 ^ 128 - 1 - y)) k ≡ true) ↔ ((bit x k ≡ true) × (bit y k ≡ false))
in_less x y k x_fits y_fits = (
  λ h. (
      let parts = (in_and x (2 ^ 128 - 1 - y) k).0 h in
      (parts.0, (in_not y k y_fits (bit_few x k x_fits parts.0)).0 parts.1)),
  λ (one, none). (in_and x (2 ^ 128 - 1 - y) k).1 (one, (in_not y k y_fits (bit_few x k x_fits one)).1 none),
)
