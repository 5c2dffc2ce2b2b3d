-- Tallies of copies, and the order of keys.
use Rattle.std.proofs.Common.{◌≡◌, ◌≢◌, ℕ, ◌+◌, ◌≤◌, ◌==◌, ◌&&◌, Bool, true, false, not, cond, List}
use Rattle.std.proofs.Common.{All, count_by, refl, sym, ap, ap₂, ◌∙◌, arith, inl, inr}
use Rattle.std.proofs.Common.{eq-eqb, ne_eqb}
use Rattle.std.proofs.lemmas.Bool.{cases_eq, cases_order, true≢false, and_right}
use Rattle.std.proofs.lemmas.List.Elements.{All-weaker}
use Rattle.std.proofs.lemmas.List.Sums.{sum_by-le-sum_by}
use Rattle.std.specs.Ordering.{nat_cmp, is_lt, ordering_then}
use Rattle.std.specs.declared.cmp.Ordering.{Ordering}
use Rattle.std.specs.declared.cmp.Ordering.TheVariants.{Less, Equal, Greater}
use Rattle.si_base.proofs.OrderAscending.{nat_same}
use Rattle.si_base.proofs.Booleans.{one_if}
use Rattle.si_graph.proofs.OrderLemmas.{less_nat}
use Rattle.si_conflicts.specs.declared.keys.Key.{Key}
use Rattle.si_conflicts.specs.declared.members.Member.{Member}
use Rattle.si_conflicts.specs.declared.tally.Role.{Role}
use Rattle.si_conflicts.specs.declared.tally.Role.TheVariants.{Absent, Plain, Switching}
use Rattle.si_conflicts.specs.declared.tally.Tally.{Tally}
use Rattle.si_conflicts.specs.Loops.Chains.{member_cmp}
use Rattle.si_conflicts.specs.Loops.Keys.{key_cmp}
use Rattle.si_conflicts.specs.Loops.Apart.{is_plain, is_switching, RoleAndKey, are_apart}
use Rattle.si_conflicts.specs.Loops.Apart.{IsUpTo, AreUpTo, equal_keys, IsTally}
use Rattle.si_conflicts.specs.declared.turns.Change.{Change}
use Rattle.si_conflicts.specs.declared.turns.Change.TheVariants.{SameKey, NewKey, NewCode}
use Rattle.si_conflicts.specs.Loops.Turns.{change_between, keeps_code, keeps_key}
use Rattle.si_conflicts.proofs.ApartPairSums.{all_in, same_sum, sum_none, sum_two}

-- ---- counts
count_none : {A : Type 0} (q : A → Bool) (xs : List A) → All (λ x. q x ≡ false) xs → count_by q xs ≡ 0
count_none q xs none = sum_none (λ x. cond (q x) 1 0) xs
    (λ x there. ap one_if (all_in (λ x. q x ≡ false) xs x none there))

-- ---- what one copy more meets
pub meets_none : (key : Key) (copies : List RoleAndKey) → count_by (λ e. are_apart e (Absent, key)) copies ≡ 0
meets_none key copies = sum_none (λ e. cond (are_apart e (Absent, key)) 1 0) copies (λ e there. ap one_if (at e.0 e.1))
  where
    at : (r : Role) (x : Key) → are_apart (r, x) (Absent, key) ≡ false
    at Absent x = refl
    at Plain x = refl
    at Switching x = refl

pub meets_plain : (key : Key) (copies : List RoleAndKey) (t : Tally) → IsTally key copies t
    → count_by (λ e. are_apart e (Plain, key)) copies + t.equal ≡ t.plain + t.switching
meets_plain key copies t is =
    let left = sum_two met equal copies in
    let right = sum_two plain switching copies in
    let same = same_sum (λ e. met e + equal e) (λ e. plain e + switching e) copies (λ e there. at e.0 e.1) in
    let p = is.plain in
    let q = is.equal in
    let r = is.switching in
    omega arith
  where
    met : RoleAndKey → ℕ
    met e = cond (are_apart e (Plain, key)) 1 0

    equal : RoleAndKey → ℕ
    equal e = cond (is_plain e.0 && equal_keys e.1 key) 1 0

    plain : RoleAndKey → ℕ
    plain e = cond (is_plain e.0 && (e.1.code == key.code)) 1 0

    switching : RoleAndKey → ℕ
    switching e = cond (is_switching e.0 && (e.1.code == key.code)) 1 0

    one : (a b : Bool) → cond (a && not b) 1 0 + cond (a && b) 1 0 ≡ cond a 1 0 + 0
    one true true = refl
    one true false = refl
    one false b = refl

    at : (r : Role) (x : Key) → met (r, x) + equal (r, x) ≡ plain (r, x) + switching (r, x)
    at Absent x = refl
    at Plain x = one (x.code == key.code) (x.excited == key.excited)
    at Switching x = omega arith

pub fewer_equal : (key : Key) (copies : List RoleAndKey) (t : Tally) → IsTally key copies t → t.equal ≤ t.plain
fewer_equal key copies t is =
    let less = sum_by-le-sum_by (λ e. cond (is_plain e.0 && equal_keys e.1 key) 1 0)
    (λ e. cond (is_plain e.0 && (e.1.code == key.code)) 1 0) copies
    (λ e. at (is_plain e.0) (e.1.code == key.code) (e.1.excited == key.excited)) in
    let p = is.plain in
    let q = is.equal in
    omega arith
  where
    at : (a b d : Bool) → cond (a && (b && d)) 1 0 ≤ cond (a && b) 1 0
    at true true true = omega arith
    at true true false = omega arith
    at true false d = omega arith
    at false b d = omega arith

-- ---- another key
pub up_to_later : (x y z : Key) → IsUpTo x y → IsUpTo y z → IsUpTo x z
up_to_later x y z (inl a) (inl b) = inl (omega arith)
up_to_later x y z (inl a) (inr b) = inl (let e = b.0 in omega arith)
up_to_later x y z (inr a) (inl b) = inl (let e = a.0 in omega arith)
up_to_later x y z (inr a) (inr b) =
    let codes = a.0 ∙ b.0 in
    inr (codes, (let l = a.1 in let m = b.1 in omega arith))

other_code : (x y z : Key) → IsUpTo x y → IsUpTo y z → y.code ≢ z.code → (x.code == z.code) ≡ false
other_code x y z (inl a) (inl b) other = ne_eqb x.code z.code (λ same. omega arith)
other_code x y z (inl a) (inr b) other = absurd (other b.0)
other_code x y z (inr a) (inl b) other = ne_eqb x.code z.code (λ same. let e = a.0 in omega arith)
other_code x y z (inr a) (inr b) other = absurd (other b.0)

other_key : (x y z : Key) → IsUpTo x y → IsUpTo y z → y.excited ≢ z.excited → equal_keys x z ≡ false
other_key x y z (inl a) (inl b) other =
    ap (λ w. w && (x.excited == z.excited)) (ne_eqb x.code z.code (λ same. omega arith))
other_key x y z (inl a) (inr b) other =
    ap (λ w. w && (x.excited == z.excited)) (ne_eqb x.code z.code (λ same. let e = b.0 in omega arith))
other_key x y z (inr a) (inl b) other =
    ap (λ w. w && (x.excited == z.excited)) (ne_eqb x.code z.code (λ same. let e = a.0 in omega arith))
other_key x y z (inr a) (inr b) other =
    and_right (x.code == z.code) (x.excited == z.excited) (ne_eqb x.excited z.excited (λ same.
    other (let l = a.1 in let m = b.1 in omega arith)))

module _ (from to : Key) (order : IsUpTo from to) (copies : List RoleAndKey) (all : AreUpTo copies from) where
  none_of : (q : RoleAndKey → Bool) → ((e : RoleAndKey) → IsUpTo e.1 from → q e ≡ false) → count_by q copies ≡ 0
  none_of q none = count_none q copies (All-weaker (λ e. IsUpTo e.1 from) (λ e. q e ≡ false) none copies all)

  kept_by_code : (q : Role → Bool) (n : ℕ) → n ≡ count_by (λ e. q e.0 && (e.1.code == from.code)) copies
      → cond (from.code == to.code) n 0 ≡ count_by (λ e. q e.0 && (e.1.code == to.code)) copies
  kept_by_code q n is = elim (cases_eq from.code to.code) [
    | inl same ↦ ap (λ w. cond w n 0) (eq-eqb from.code to.code same) ∙ is
        ∙ ap (λ k. count_by (λ e. q e.0 && (e.1.code == k)) copies) same
    | inr other ↦ ap (λ w. cond w n 0) (ne_eqb from.code to.code other)
        ∙ sym (none_of (λ e. q e.0 && (e.1.code == to.code))
        (λ e up. and_right (q e.0) (e.1.code == to.code) (other_code e.1 from to up order other)))
  ]

  kept_by_key : (n : ℕ) → n ≡ count_by (λ e. is_plain e.0 && equal_keys e.1 from) copies
      → cond (equal_keys from to) n 0 ≡ count_by (λ e. is_plain e.0 && equal_keys e.1 to) copies
  kept_by_key n is = elim (cases_eq from.code to.code) [
    | inr other ↦ ap (λ w. cond (w && (from.excited == to.excited)) n 0) (ne_eqb from.code to.code other)
        ∙ sym (none_of (λ e. is_plain e.0 && equal_keys e.1 to) (λ e up. and_right (is_plain e.0) (equal_keys e.1 to)
        (ap (λ w. w && (e.1.excited == to.excited)) (other_code e.1 from to up order other))))
    | inl code ↦ elim (cases_eq from.excited to.excited) [
      | inl same ↦ ap₂ (λ v w. cond (v && w) n 0) (eq-eqb from.code to.code code)
          (eq-eqb from.excited to.excited same) ∙ is
          ∙ ap₂ (λ k l. count_by (λ e. is_plain e.0 && ((e.1.code == k) && (e.1.excited == l))) copies) code same
      | inr other ↦ ap (λ w. cond w n 0) (and_right (from.code == to.code) (from.excited == to.excited)
          (ne_eqb from.excited to.excited other))
          ∙ sym (none_of (λ e. is_plain e.0 && equal_keys e.1 to) (λ e up. and_right (is_plain e.0)
          (equal_keys e.1 to) (other_key e.1 from to up order other)))
    ]
  ]

  -- the tally for the next key, after that change
  pub tally_for : (change : Change) → change ≡ change_between from to → (t new : Tally) → IsTally from copies t
      → new.plain ≡ cond (keeps_code change) t.plain 0 → new.equal ≡ cond (keeps_key change) t.equal 0
      → new.switching ≡ cond (keeps_code change) t.switching 0 → IsTally to copies new
  tally_for change change_is t new is plain_is equal_is switching_is = record {
    plain = plain_is ∙ ap (λ w. cond w t.plain 0) code ∙ kept_by_code is_plain t.plain is.plain;
    equal = equal_is ∙ ap (λ w. cond w t.equal 0) key ∙ kept_by_key t.equal is.equal;
    switching = switching_is ∙ ap (λ w. cond w t.switching 0) code
        ∙ kept_by_code is_switching t.switching is.switching;
  }
    where
      code_kept : (a b : Bool) → keeps_code (cond a (cond b SameKey NewKey) NewCode) ≡ a
      code_kept true true = refl
      code_kept true false = refl
      code_kept false b = refl

      key_kept : (a b : Bool) → keeps_key (cond a (cond b SameKey NewKey) NewCode) ≡ (a && b)
      key_kept true true = refl
      key_kept true false = refl
      key_kept false b = refl

      code : keeps_code change ≡ (from.code == to.code)
      code = ap keeps_code change_is ∙ code_kept (from.code == to.code) (from.excited == to.excited)

      key : keeps_key change ≡ equal_keys from to
      key = ap keeps_key change_is ∙ key_kept (from.code == to.code) (from.excited == to.excited)

-- ---- the order of keys and of members
pub key_up_to : (x y : Key) → is_lt (key_cmp y x) ≡ false → IsUpTo x y
key_up_to x y sorted = elim (cases_order x.code y.code) [
  | inr (inl before) ↦ inl before
  | inr (inr after) ↦ absurd (true≢false (rw (less_nat y.code x.code after) at sorted))
  | inl same ↦ elim (cases_order x.excited y.excited) [
    | inl equal ↦ inr (same, omega arith)
    | inr (inl before) ↦ inr (same, omega arith)
    | inr (inr after) ↦ absurd (true≢false (rw (
      ap (λ k. nat_cmp y.code k) same ∙ nat_same y.code,
      less_nat y.excited x.excited after,
    ) at sorted))
  ]
]

not_less : (o p : Ordering) → is_lt (ordering_then o p) ≡ false → is_lt o ≡ false
not_less Less p is = is
not_less Equal p is = refl
not_less Greater p is = refl

pub up_to : (x y : Member) → is_lt (member_cmp y x) ≡ false → IsUpTo x.key y.key
up_to x y sorted =
    key_up_to x.key y.key (not_less (key_cmp y.key x.key) (nat_cmp y.state x.state) sorted)

-- no key is before the first
pub first_key : (x : Key) → IsUpTo (record { code = 0; excited = 0 }) x
first_key x = elim (cases_eq x.code 0) [ inl same ↦ inr (sym same, omega arith) | inr other ↦ inl (omega arith) ]
