-- The values of names.
use Rattle.std.proofs.Common.{◌≡◌, ℕ, ◌+◌, ◌<◌, Bool, false, List, [], ◌∷◌, length}
use Rattle.std.proofs.Common.{Option, Some, None, refl, sym, ap, ◌∙◌, arith}
use Rattle.std.proofs.Common.{position, bytes_eq, suc, inl, inr, true, not, ◌≤◌, ◌^◌, ◌==◌, nat_lt}
use Rattle.std.proofs.Common.{if◌then◌else◌}
use Rattle.std.specs.List.{prefix_len}
use Rattle.std.proofs.lemmas.Bool.{cases_Bool, cases_lt, lt-ltb, le-ltb}
use Rattle.std.proofs.lemmas.Nat.Bits.{bit_at_above}
use Rattle.std.proofs.lemmas.Slice.Eq.{bytes_eq-Decides}
use Rattle.si_base.specs.Bits.{bit}
use Rattle.si_words.proofs.NameWords.{bytes_swap}
use Rattle.si_equations.specs.Names.{named_from, named_value}

abbrev value_at : ℕ → ℕ → Option ℕ → Bool
value_at values i None = false
value_at values i (Some k) = bit values (i + k)

bytes_swapped : (a b : List ℕ) (c : Bool) → bytes_eq a b ≡ c → bytes_eq b a ≡ c
bytes_swapped a b true is = (bytes_eq-Decides b a).1 (sym ((bytes_eq-Decides a b).0 is))
bytes_swapped a b false is = bytes_swap a b is

value_later : (values i place count : ℕ)
    → value_at values i (if nat_lt (suc place) (suc count) then Some (suc place) else None)
    ≡ value_at values (i + 1) (if nat_lt place count then Some place else None)
value_later values i place count = elim (cases_lt place count) [
  | inl less ↦
      let one : nat_lt place count ≡ true = lt-ltb _ _ less in
      let other : nat_lt (suc place) (suc count) ≡ true = lt-ltb _ _ (omega arith) in
      let same : i + suc place ≡ i + 1 + place = omega arith in
      rw (one, other) (ap (bit values) same)
  | inr past ↦
      let one : nat_lt place count ≡ false = le-ltb _ _ past in
      let other : nat_lt (suc place) (suc count) ≡ false = le-ltb _ _ (omega arith) in
      rw (one, other) refl
]

pub named_place : (i : ℕ) (names : List (List ℕ)) (values : ℕ) (name : List ℕ)
    → named_from i names values name ≡ value_at values i (position (λ n. bytes_eq name n) names)
named_place i [] values name = refl
named_place i (n ∷ names) values name = elim (cases_Bool (bytes_eq name n)) [
  | inl same ↦
      let other = bytes_swapped name n true same in
      let first : i ≡ i + 0 = omega arith in
      let there : nat_lt 0 (suc (length names)) ≡ true = lt-ltb _ _ (omega arith) in
      rw (same, other, there) (ap (bit values) first)
  | inr apart ↦
      let other = bytes_swapped name n false apart in
      let one : (k : ℕ) → 1 + k ≡ suc k = λ k. omega arith in
      rw (apart, other, one) (named_place (i + 1) names values name
      ∙ sym (value_later values i (prefix_len (λ m. not (bytes_eq name m)) names) (length names)))
]

pub named_there : (names : List (List ℕ)) (values : ℕ) (name : List ℕ) (k : ℕ)
    → Some k ≡ position (λ n. bytes_eq name n) names → bit values k ≡ named_value names values name
named_there names values name k at =
    let same : k ≡ 0 + k = omega arith in
    ap (bit values) same ∙ ap (value_at values 0) at ∙ sym (named_place 0 names values name)

pub named_none : (names : List (List ℕ)) (values : ℕ) (name : List ℕ)
    → None ≡ position (λ n. bytes_eq name n) names → false ≡ named_value names values name
named_none names values name at = ap (value_at values 0) at ∙ sym (named_place 0 names values name)

pub no_bit : (values k : ℕ) → values < 2 ^ 128 → 128 ≤ k → bit values k ≡ false
no_bit values k small past = ap (λ (b : ℕ). b == 1) (bit_at_above values 128 k small past)
