-- Bytes of names, which are neither blank nor outside of ASCII.
use Rattle.std.proofs.Common.{◌≡◌, ℕ, ◌≤◌, ◌==◌, true, refl, arith, inl, inr, eqb-true, nat_le}
use Rattle.std.proofs.lemmas.Bool.{and_parts, and_from, or_cases, leb-true, le-leb}
use Rattle.si_base.specs.Words.{is_between, is_letter, is_name_byte}

pub narrow : (low high b : ℕ) → nat_le 33 low ≡ true → nat_le high 126 ≡ true → is_between low high b ≡ true
    → is_between 33 126 b ≡ true
narrow low high b above below is =
    let parts = and_parts (nat_le low b) (nat_le b high) is in
    let first : 33 ≤ low = leb-true 33 low above in
    let last : high ≤ 126 = leb-true high 126 below in
    let one : low ≤ b = leb-true low b parts.0 in
    let other : b ≤ high = leb-true b high parts.1 in
    and_from _ _ (le-leb 33 b (omega arith)) (le-leb b 126 (omega arith))

exactly : (c b : ℕ) → is_between 33 126 c ≡ true → (b == c) ≡ true → is_between 33 126 b ≡ true
exactly c b is same = rw (eqb-true b c same) is

pub dark_letter : (b : ℕ) → is_letter b ≡ true → is_between 33 126 b ≡ true
dark_letter b is = elim (or_cases _ _ is) [
  | inr line ↦ exactly 95 b refl line
  | inl two ↦ elim (or_cases _ _ two) [
    | inl upper ↦ narrow 65 90 b refl refl upper
    | inr lower ↦ narrow 97 122 b refl refl lower
  ]
]

pub dark_name_byte : (b : ℕ) → is_name_byte b ≡ true → is_between 33 126 b ≡ true
dark_name_byte b is = elim (or_cases _ _ is) [
  | inr e ↦ exactly 62 b refl e
  | inl six ↦ elim (or_cases _ _ six) [
    | inr e ↦ exactly 60 b refl e
    | inl five ↦ elim (or_cases _ _ five) [
      | inr e ↦ exactly 93 b refl e
      | inl four ↦ elim (or_cases _ _ four) [
        | inr e ↦ exactly 91 b refl e
        | inl three ↦ elim (or_cases _ _ three) [
          | inr e ↦ exactly 46 b refl e
          | inl two ↦ elim (or_cases _ _ two) [
            | inl letter ↦ dark_letter b letter
            | inr digit ↦ narrow 48 57 b refl refl digit
          ]
        ]
      ]
    ]
  ]
]
