-- Sums over lists and over the pairs of a list.
use Rattle.std.proofs.Common.{◌≡◌, ℕ, zero, suc, ◌+◌, ◌≤◌, ◌&&◌, Bool, true, false, cond, List, [], ◌∷◌, ◌++◌, take}
use Rattle.std.proofs.Common.{map, filter, All, refl, sym, ap, ap₂, ◌∙◌, arith, inl, inr, count_by}
use Rattle.std.proofs.lemmas.Bool.{cases_Bool}
use Rattle.std.proofs.lemmas.List.Elements.{All-contains}
use Rattle.std.proofs.lemmas.List.Sums.{sum_by-cons, sum_by_push}
use Rattle.std.specs.List.{sum_by}
use Rattle.si_base.proofs.OrderAscending.{In}
use Rattle.si_base.proofs.GivenGraphUnique.{contains_from_in}
use Rattle.si_conflicts.specs.declared.keys.Key.{Key}
use Rattle.si_conflicts.specs.Loops.Keys.{clashes, clash_count}
use Rattle.si_conflicts.specs.Loops.Apart.{pair_sum}

pub all_in : {A : Type 0} (P : A → Type 0) (xs : List A) (a : A) → All P xs → In a xs → P a
all_in P xs a all there = All-contains P xs a all (contains_from_in xs a there)

module _ {A : Type 0} where
  pub same_sum : (f g : A → ℕ) (xs : List A) → ((x : A) → In x xs → f x ≡ g x) → sum_by f xs ≡ sum_by g xs
  same_sum f g [] same = refl
  same_sum f g (x ∷ xs) same =
      let here = same x (inl refl) in
      let rest = same_sum f g xs (λ y there. same y (inr there)) in
      omega (arith, sum_by-cons f x xs, sum_by-cons g x xs)

  pub sum_none : (f : A → ℕ) (xs : List A) → ((x : A) → In x xs → f x ≡ 0) → sum_by f xs ≡ 0
  sum_none f [] none = refl
  sum_none f (x ∷ xs) none =
      let here = none x (inl refl) in
      let rest = sum_none f xs (λ y there. none y (inr there)) in
      omega (arith, sum_by-cons f x xs)

  pub sum_two : (f g : A → ℕ) (xs : List A) → sum_by (λ x. f x + g x) xs ≡ sum_by f xs + sum_by g xs
  sum_two f g [] = refl
  sum_two f g (x ∷ xs) =
      let rest = sum_two f g xs in
      omega (arith, sum_by-cons (λ x. f x + g x) x xs, sum_by-cons f x xs, sum_by-cons g x xs)

  pub sum_map : {B : Type 0} (f : A → B) (g : B → ℕ) (xs : List A) → sum_by g (map f xs) ≡ sum_by (λ x. g (f x)) xs
  sum_map f g [] = refl
  sum_map f g (x ∷ xs) =
      let rest = sum_map f g xs in
      omega (arith, sum_by-cons g (f x) (map f xs), sum_by-cons (λ x. g (f x)) x xs)

  kept : (q : A → Bool) (x : A) (xs : List A) (b : Bool) → q x ≡ b
      → filter q (x ∷ xs) ≡ cond b (x ∷ filter q xs) (filter q xs)
  kept q x xs b is = ap (λ t. cond t (x ∷ filter q xs) (filter q xs)) is

  pub sum_filter : (q : A → Bool) (f : A → ℕ) (xs : List A)
      → sum_by f (filter q xs) ≡ sum_by (λ x. cond (q x) (f x) 0) xs
  sum_filter q f [] = refl
  sum_filter q f (x ∷ xs) = elim (cases_Bool (q x)) [
    | inl is ↦ (
        let list = ap (sum_by f) (kept q x xs true is) in
        let term = ap (λ t. cond t (f x) 0) is in
        let rest = sum_filter q f xs in
        omega (arith, list, term, rest, sum_by-cons f x (filter q xs), sum_by-cons (λ x. cond (q x) (f x) 0) x xs))
    | inr other ↦ (
        let list = ap (sum_by f) (kept q x xs false other) in
        let term = ap (λ t. cond t (f x) 0) other in
        let rest = sum_filter q f xs in
        omega (arith, list, term, rest, sum_by-cons (λ x. cond (q x) (f x) 0) x xs))
  ]

  -- those left out add nothing
  pub sum_kept : (q : A → Bool) (f : A → ℕ) (xs : List A) → ((x : A) → In x xs → q x ≡ false → f x ≡ 0)
      → sum_by f xs ≡ sum_by f (filter q xs)
  sum_kept q f xs none = same_sum f (λ x. cond (q x) (f x) 0) xs same ∙ sym (sum_filter q f xs)
    where
      same : (x : A) → In x xs → f x ≡ cond (q x) (f x) 0
      same x there = elim (cases_Bool (q x)) [
        | inl is ↦ sym (ap (λ t. cond t (f x) 0) is)
        | inr other ↦ none x there other ∙ sym (ap (λ t. cond t (f x) 0) other)
      ]

  -- ---- pairs
  pub pair_same : (d e : A → A → ℕ) (xs : List A) → ((x y : A) → In x xs → In y xs → d x y ≡ e x y)
      → pair_sum d xs ≡ pair_sum e xs
  pair_same d e [] same = refl
  pair_same d e (x ∷ xs) same =
      ap₂ (λ a b. a + b) (same_sum (d x) (e x) xs (λ y there. same x y (inl refl) (inr there)))
      (pair_same d e xs (λ y z one two. same y z (inr one) (inr two)))

  pub pair_two : (d e : A → A → ℕ) (xs : List A)
      → pair_sum (λ x y. d x y + e x y) xs ≡ pair_sum d xs + pair_sum e xs
  pair_two d e [] = refl
  pair_two d e (x ∷ xs) =
      let here = sum_two (d x) (e x) xs in
      let rest = pair_two d e xs in
      omega arith

  pub pair_map : {B : Type 0} (f : A → B) (d : B → B → ℕ) (xs : List A)
      → pair_sum d (map f xs) ≡ pair_sum (λ x y. d (f x) (f y)) xs
  pair_map f d [] = refl
  pair_map f d (x ∷ xs) = ap₂ (λ a b. a + b) (sum_map f (d (f x)) xs) (pair_map f d xs)

  pub pair_filter : (q : A → Bool) (d : A → A → ℕ) (xs : List A)
      → pair_sum d (filter q xs) ≡ pair_sum (λ x y. cond (q x && q y) (d x y) 0) xs
  pair_filter q d [] = refl
  pair_filter q d (x ∷ xs) = elim (cases_Bool (q x)) [
    | inl is ↦ (
        let list = ap (pair_sum d) (kept q x xs true is) in
        let row = sum_filter q (d x) xs in
        let same = same_sum (λ y. cond (q y) (d x y) 0) (λ y. cond (q x && q y) (d x y) 0) xs
        (λ y there. sym (ap (λ t. cond (t && q y) (d x y) 0) is)) in
        let rest = pair_filter q d xs in
        omega (arith, list, row, same, rest))
    | inr other ↦ (
        let list = ap (pair_sum d) (kept q x xs false other) in
        let none = sum_none (λ y. cond (q x && q y) (d x y) 0) xs
        (λ y there. ap (λ t. cond (t && q y) (d x y) 0) other) in
        let rest = pair_filter q d xs in
        omega (arith, list, none, rest))
  ]

  pub pair_push : (d : A → A → ℕ) (xs : List A) (x : A)
      → pair_sum d (xs ++ x ∷ []) ≡ pair_sum d xs + sum_by (λ y. d y x) xs
  pair_push d [] x = refl
  pair_push d (y ∷ xs) x =
      let rest = pair_push d xs x in
      omega (arith, rest, sum_by_push (d y) xs x, sum_by-cons (λ z. d z x) y xs)

  pub pair_take : (d : A → A → ℕ) (k : ℕ) (xs : List A) → pair_sum d (take k xs) ≤ pair_sum d xs
  pair_take d zero xs = omega arith
  pair_take d (suc k) [] = omega arith
  pair_take d (suc k) (x ∷ xs) =
      let rest = pair_take d k xs in
      let row = row_take k xs in
      omega (arith, rest, row)
    where
      row_take : (k : ℕ) (ys : List A) → sum_by (d x) (take k ys) ≤ sum_by (d x) ys
      row_take zero ys = omega arith
      row_take (suc k) [] = omega arith
      row_take (suc k) (y ∷ ys) =
          let rest = row_take k ys in
          omega (arith, rest, sum_by-cons (d x) y (take k ys), sum_by-cons (d x) y ys)

  -- each pair twice
  pub twice : (d : A → A → ℕ) → ((x y : A) → d x y ≡ d y x) → ((x : A) → d x x ≡ 0) → (xs : List A)
      → sum_by (λ x. sum_by (d x) xs) xs ≡ pair_sum d xs + pair_sum d xs
  twice d back none [] = refl
  twice d back none (x ∷ xs) =
      let row = sum_by-cons (d x) x xs in
      let all = sum_by-cons (λ y. sum_by (d y) (x ∷ xs)) x xs in
      let parts = same_sum (λ y. sum_by (d y) (x ∷ xs)) (λ y. d y x + sum_by (d y) xs) xs
      (λ y there. sum_by-cons (d y) x xs) in
      let two = sum_two (λ y. d y x) (λ y. sum_by (d y) xs) xs in
      let column = same_sum (λ y. d y x) (d x) xs (λ y there. back y x) in
      let rest = twice d back none xs in
      let own = none x in
      omega (arith, row, all, parts, two, column, rest, own)

pub clash_pairs : (keys : List Key) → clash_count keys ≡ pair_sum (λ x y. cond (clashes x y) 1 0) keys
clash_pairs [] = refl
clash_pairs (x ∷ xs) = ap (λ n. count_by (clashes x) xs + n) (clash_pairs xs)
