-- Keys that clash, and counts in a map, element by element.
use Rattle.std.proofs.Common.{◌≡◌, ℕ, ◌+◌, ◌<◌, ◌≤◌, ◌==◌, ◌&&◌, Bool, true, false, not, cond, List, [], ◌∷◌, ◌++◌}
use Rattle.std.proofs.Common.{length, take, get_or, count_by, Option, Some, unwrap_or, sym, ap, ap₂, subst, ◌∙◌}
use Rattle.std.proofs.Common.{arith, inl, inr, eqb-true, eq-eqb}
use Rattle.std.proofs.lemmas.Bool.{cases_Bool, true≢false}
use Rattle.std.proofs.lemmas.List.{take_more, length-take-le}
use Rattle.std.proofs.lemmas.List.Sums.{count_by-le-length, sum_by_push}
use Rattle.std.specs.Map.{count_at}
use Rattle.std.specs.Cmp.{unsigned_ties}
use Rattle.std.specs.Ordering.{nat_cmp, is_eq}
use Rattle.si_base.proofs.Booleans.{one_if}
use Rattle.si_conflicts.specs.declared.keys.Key.{Key}
use Rattle.si_conflicts.specs.Loops.Keys.{clashes}

-- ---- a count with one element more at the end
count_last : {A : Type 0} (f : A → Bool) (xs : List A) (x : A)
    → count_by f (xs ++ x ∷ []) ≡ count_by f xs + cond (f x) 1 0
count_last f xs x = sum_by_push (λ y. cond (f y) 1 0) xs x

pub eq_back : (a b : ℕ) → (a == b) ≡ (b == a)
eq_back a b = elim (cases_Bool (a == b)) [
  | inl same ↦ same ∙ sym (eq-eqb b a (sym (eqb-true a b same)))
  | inr apart ↦ elim (cases_Bool (b == a)) [
    | inl same ↦ absurd (true≢false (sym (eq-eqb a b (sym (eqb-true b a same))) ∙ apart))
    | inr also ↦ apart ∙ sym also
  ]
]

pub clash_back : (x y : Key) → clashes x y ≡ clashes y x
clash_back x y = ap₂ (λ a b. a && not b) (eq_back x.code y.code) (eq_back x.excited y.excited)

-- ---- counts in a map, as one element more is counted: `hit` tells the entry that was written
pub counts_more : {Q A : Type 0} (test : Q → A → Bool) (hit : Q → Bool) (keys : List A) (i : ℕ) (k : A) (count : ℕ)
    (old new : Q → Option ℕ) → i < length keys → k ≡ get_or keys i k
    → ((q : Q) → new q ≡ cond (hit q) (Some (count + 1)) (old q)) → ((q : Q) → hit q ≡ test q k)
    → ((q : Q) → hit q ≡ true → count ≡ count_by (test q) (take i keys))
    → ((q : Q) → count_at old q ≡ count_by (test q) (take i keys))
    → (q : Q) → count_at new q ≡ count_by (test q) (take (i + 1) keys)
counts_more test hit keys i k count old new inside at writes hits counted before q =
    elim (cases_Bool (hit q)) [
      | inl here ↦ (
          let now : new q ≡ Some (count + 1) = writes q ∙ ap (λ b. cond b (Some (count + 1)) (old q)) here in
          let plus = one true (sym (hits q) ∙ here) in
          let is = ap (λ o. unwrap_or o 0) now in
          omega (arith, is, whole, last, plus, counted q here))
      | inr other ↦ (
          let now : new q ≡ old q = writes q ∙ ap (λ b. cond b (Some (count + 1)) (old q)) other in
          let plus = one false (sym (hits q) ∙ other) in
          let is = ap (λ o. unwrap_or o 0) now in
          omega (arith, is, whole, last, plus, before q))
    ]
  where
    whole : count_by (test q) (take (i + 1) keys) ≡ count_by (test q) (take i keys ++ k ∷ [])
    whole = ap (count_by (test q)) (take_more keys i k inside ∙ ap (λ x. take i keys ++ x ∷ []) (sym at))

    last : count_by (test q) (take i keys ++ k ∷ []) ≡ count_by (test q) (take i keys) + cond (test q k) 1 0
    last = count_last (test q) (take i keys) k

    one : (b : Bool) → test q k ≡ b → one_if (test q k) ≡ one_if b
    one b is = ap one_if is

-- ---- which entries are written
pub code_hit : (code q : ℕ) → is_eq (nat_cmp code q) ≡ (q == code)
code_hit code q = sym (unsigned_ties code q) ∙ eq_back code q

pub code_counted : {A : Type 0} (code_of : A → ℕ) (code : ℕ) (xs : List A) (count : ℕ)
    → count ≡ count_by (λ x. code == code_of x) xs → (q : ℕ)
    → is_eq (nat_cmp code q) ≡ true → count ≡ count_by (λ x. q == code_of x) xs
code_counted code_of code xs count is q here =
    let same : q ≡ code = eqb-true q code (sym (code_hit code q) ∙ here) in
    subst (λ v. count ≡ count_by (λ x. v == code_of x) xs) (sym same) is

pub at_most_counted : {A : Type 0} (f : A → Bool) (keys : List A) (i count : ℕ) → count ≡ count_by f (take i keys)
    → i < length keys
    → count ≤ i
at_most_counted f keys i count is inside =
    let most = count_by-le-length f (take i keys) in
    let size = length-take-le i keys (omega arith) in
    omega (arith, most, size, is)
