-- Digits of numbers to the base 4.
use Rattle.std.proofs.Common.{◌≡◌, ◌≢◌, ℕ, zero, suc, ◌+◌, ◌*◌, ◌/◌, ◌%◌, ◌^◌, ◌<◌, ◌≤◌, refl, sym, ap, ◌∙◌, arith, inl}
use Rattle.std.proofs.Common.{inr}
use Rattle.std.proofs.Math.Nat.{div-div-eq-div-mul, div-one, pow-succ', one-le-pow, pow-le-pow_right}
use Rattle.std.proofs.lemmas.Bool.{cases_eq, eq-eqb, ne_eqb}
use Rattle.si_handshakes.specs.Handshakes.{phase}
use Rattle.si_handshakes.specs.Loops.Arcs.{next_state}

pub phase_below : (m i : ℕ) → phase m i < 4
phase_below m i = omega arith

pub power_pos : (i : ℕ) → 0 < 4 ^ i
power_pos i = omega (arith, one-le-pow i 4 (omega arith))

pub at_most : (i : ℕ) → i ≤ 8 → 4 ^ i ≤ 65536
at_most i few = let h : 4 ^ i ≤ 4 ^ 8 = pow-le-pow_right (omega arith) few in omega (arith, h)

pub at_least : (i : ℕ) → 0 < i → 4 ≤ 4 ^ i
at_least i some = let h : 4 ^ 1 ≤ 4 ^ i = pow-le-pow_right (omega arith) some in omega (arith, h)

-- ---- the lowest digit, and the others
pub lowest : (m : ℕ) → phase m 0 ≡ m % 4
lowest m = ap (λ x. x % 4) (div-one m)

pub later : (m i : ℕ) → phase m (suc i) ≡ phase (m / 4) i
later m i = ap (λ x. m / x % 4) (pow-succ' 4 i) ∙ ap (λ x. x % 4) (sym (div-div-eq-div-mul m 4 (4 ^ i)))

-- digits below the n-th tell the number
pub same_digits : (n s t : ℕ) → s < 4 ^ n → t < 4 ^ n → ((k : ℕ) → k < n → phase s k ≡ phase t k) → s ≡ t
same_digits zero s t below also same = omega arith
same_digits (suc n) s t below also same =
    let power : 4 ^ suc n ≡ 4 * 4 ^ n = pow-succ' 4 n in
    let high : s / 4 ≡ t / 4 =
    same_digits n (s / 4) (t / 4) (omega (arith, power)) (omega (arith, power))
    (λ k within. sym (later s k) ∙ same (suc k) (omega arith) ∙ later t k) in
    let low : s % 4 ≡ t % 4 = sym (lowest s) ∙ same 0 (omega arith) ∙ lowest t in
    omega arith

-- ---- a digit exchanged
pub put : ℕ → ℕ → ℕ → ℕ
put zero m d = 4 * (m / 4) + d
put (suc i) m d = 4 * put i (m / 4) d + m % 4

pub put_same : (i m d : ℕ) → d < 4 → phase (put i m d) i ≡ d
unfolding put
put_same zero m d small = lowest (4 * (m / 4) + d) ∙ omega arith
put_same (suc i) m d small =
    let high : put (suc i) m d / 4 ≡ put i (m / 4) d = omega arith in
    later (put (suc i) m d) i ∙ ap (λ x. phase x i) high ∙ put_same i (m / 4) d small

pub put_other : (i m d k : ℕ) → d < 4 → k ≢ i → phase (put i m d) k ≡ phase m k
unfolding put
put_other zero m d zero small ne = absurd (ne refl)
put_other zero m d (suc k) small ne =
    let high : (4 * (m / 4) + d) / 4 ≡ m / 4 = omega arith in
    later (4 * (m / 4) + d) k ∙ ap (λ x. phase x k) high ∙ sym (later m k)
put_other (suc i) m d zero small ne =
    let low : (4 * put i (m / 4) d + m % 4) % 4 ≡ m % 4 = omega arith in
    lowest (4 * put i (m / 4) d + m % 4) ∙ low ∙ sym (lowest m)
put_other (suc i) m d (suc k) small ne =
    let high : put (suc i) m d / 4 ≡ put i (m / 4) d = omega arith in
    later (put (suc i) m d) k ∙ ap (λ x. phase x k) high
    ∙ put_other i (m / 4) d k small (λ same. ne (ap suc same)) ∙ sym (later m k)

pub put_below : (i n m d : ℕ) → d < 4 → i < n → m < 4 ^ n → put i m d < 4 ^ n
unfolding put
put_below i zero m d small within below = absurd (omega arith)
put_below zero (suc n) m d small within below =
    let power : 4 ^ suc n ≡ 4 * 4 ^ n = pow-succ' 4 n in omega (arith, power)
put_below (suc i) (suc n) m d small within below =
    let power : 4 ^ suc n ≡ 4 * 4 ^ n = pow-succ' 4 n in
    let high : put i (m / 4) d < 4 ^ n = put_below i n (m / 4) d small (omega arith) (omega (arith, power)) in
    omega (arith, power)

-- in terms of powers
pub put_is : (i m d : ℕ) → put i m d + phase m i * 4 ^ i ≡ m + d * 4 ^ i
unfolding put
put_is zero m d = rw lowest (omega arith)
put_is (suc i) m d =
    let high = put_is i (m / 4) d in
    rw (later m i, pow-succ' 4 i) (omega (arith, high))

-- ---- one digit goes on
pub next_is : (m i : ℕ) → next_state m i ≡ put i m ((phase m i + 1) % 4)
next_is m i = elim (cases_eq (phase m i) 3) [
  | inl last ↦ rw (eq-eqb _ _ last) (
      let is = put_is i m 0 in
      rw last (let also = rw last at is in omega (arith, also)))
  | inr earlier ↦ rw (ne_eqb _ _ earlier) (
      let more : (phase m i + 1) % 4 ≡ phase m i + 1 = omega (arith, phase_below m i) in
      rw more (let is = put_is i m (phase m i + 1) in omega (arith, is)))
]

-- ---- a number above 0 has a digit that isn't 0
pub some_digit : (n s : ℕ) → s < 4 ^ n → 0 < s → (i : ℕ) × (i < n) × (0 < phase s i)
some_digit zero s below some = absurd (omega arith)
some_digit (suc n) s below some =
    let power : 4 ^ suc n ≡ 4 * 4 ^ n = pow-succ' 4 n in
    elim (cases_eq (s % 4) 0) [
      | inl none ↦ (
          let r = some_digit n (s / 4) (omega (arith, power)) (omega arith) in
          (suc r.0, omega (arith, r.1), rw later r.2))
      | inr low ↦ (0, omega arith, rw lowest (omega (arith, low)))
    ]
