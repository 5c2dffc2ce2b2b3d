-- Names and marks: what of a word tells the bits, and what tells the name.
use Rattle.std.proofs.Common.{◌≡◌, ◌≢◌, ℕ, zero, suc, ◌<◌, Bool, true, false, List, [], ◌++◌, length, get_or}
use Rattle.std.proofs.Common.{take, drop, AllPairs, refl, sym, ap, ◌∙◌, arith, inl, inr}
use Rattle.std.proofs.lemmas.Bool.{cases_order}
use Rattle.std.proofs.lemmas.List.{length-append, take_at, drop_at}
use Rattle.std.proofs.lemmas.List.FromFn.{length-map-range_with_len, get_or-map-range_with_len}
use Rattle.si_base.specs.Bits.{bit}
use Rattle.si_circuit.specs.Spelling.{digit, digits, mark}

digit_one_way : (a b : Bool) → digit a ≡ digit b → a ≡ b
digit_one_way true true same = refl
digit_one_way true false same = (let e : 49 ≡ 48 = same in absurd (omega (arith, e)))
digit_one_way false true same = (let e : 48 ≡ 49 = same in absurd (omega (arith, e)))
digit_one_way false false same = refl

pub digit_at : (k bits i : ℕ) → i < k → get_or (digits k bits) i 0 ≡ digit (bit bits i)
digit_at k bits i within =
    get_or-map-range_with_len (λ (j : ℕ). digit (bit bits j)) 0 k i i 0 within (omega arith)

digits_one_way : (k a b i : ℕ) → digits k a ≡ digits k b → i < k → bit a i ≡ bit b i
digits_one_way k a b i same within =
    digit_one_way (bit a i) (bit b i)
    (sym (digit_at k a i within) ∙ ap (λ (ds : List ℕ). get_or ds i 0) same ∙ digit_at k b i within)

pub mark_length : (k a b : ℕ) → length (mark k a) ≡ length (mark k b)
mark_length zero a b = refl
mark_length (suc k) a b =
    ap (λ (n : ℕ). suc n)
    (length-map-range_with_len (λ (i : ℕ). digit (bit a i)) 0 (suc k)
    ∙ sym (length-map-range_with_len (λ (i : ℕ). digit (bit b i)) 0 (suc k)))

-- a mark tells the first k bits
pub mark_one_way : (k a b i : ℕ) → mark k a ≡ mark k b → i < k → bit a i ≡ bit b i
mark_one_way zero a b i same within = absurd (omega arith)
mark_one_way (suc k) a b i same within =
    digits_one_way (suc k) a b i (ap (λ (xs : List ℕ). drop 1 xs) same) within

-- two words with ends of one length are split alike
pub same_split : (a x b y : List ℕ) → a ++ x ≡ b ++ y → length x ≡ length y → (a ≡ b) × (x ≡ y)
same_split a x b y same sizes =
    let size : length b ≡ length a = omega (arith, ap (length {A = ℕ}) same, length-append a x, length-append b y) in (
      sym (take_at a x (length a) refl) ∙ ap (λ (xs : List ℕ). take (length a) xs) same ∙ take_at b y (length a) size,
      sym (drop_at a x (length a) refl) ∙ ap (λ (xs : List ℕ). drop (length a) xs) same ∙ drop_at b y (length a) size,
    )

-- distinct names stand at one place each
pub one_place : (names : List (List ℕ)) → AllPairs (λ x y. x ≢ y) names → (i j : ℕ) → i < length names
    → j < length names → get_or names i [] ≡ get_or names j [] → i ≡ j
one_place names apart i j i_in j_in same = elim (cases_order i j) [
  | inl equal ↦ equal
  | inr (inl below) ↦ absurd (apart i j [] below j_in same)
  | inr (inr above) ↦ absurd (apart j i [] above i_in (sym same))
]
