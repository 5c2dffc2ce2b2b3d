-- A list without repetitions whose elements stand in another list is no longer than that.
use Rattle.std.specs.List.{range_with_len}
use Rattle.std.proofs.Common.{◌≡◌, suc, ◌≤◌, List, [], ◌∷◌, length, refl, sym, subst, ◌∙◌, arith, inl, inr, ℕ, zero}
use Rattle.std.proofs.Common.{◌+◌, ◌<◌}
use Rattle.std.proofs.lemmas.Bool.{cases_lt}
use Rattle.si_base.proofs.OrderAscending.{In}

-- each element of a list stands there once
abbrev pub Once : {A : Type 0} → List A → Type 0
Once [] = Unit {0}
Once (x ∷ xs) = (In x xs → ⊥) × Once xs

-- the list without one place of x
pub record Without {A : Type 0} (x : A) (ys zs : List A) : Type 0 where
  pub shorter : length ys ≡ suc (length zs)
  pub others : (a : A) → In a ys → (a ≡ x → ⊥) → In a zs

pub without : {A : Type 0} (x : A) (ys : List A) → In x ys → (zs : List A) × Without x ys zs
without x [] h = absurd h
without x (y ∷ ys) (inl e) = (ys, record { shorter = refl; others = λ a there other. rest a there other })
  where
    rest : (a : _) → In a (y ∷ ys) → (a ≡ x → ⊥) → In a ys
    rest a (inl same) other = absurd (other (same ∙ sym e))
    rest a (inr there) other = there
without x (y ∷ ys) (inr h) = let w = without x ys h in
    (y ∷ w.0, record { shorter = omega (arith, w.1.shorter); others = λ a there other. rest w.0 w.1 a there other })
  where
    rest : (zs : List _) → Without x ys zs → (a : _) → In a (y ∷ ys) → (a ≡ x → ⊥) → In a (y ∷ zs)
    rest zs w a (inl same) other = inl same
    rest zs w a (inr there) other = inr (w.others a there other)

pub at_most : {A : Type 0} (xs ys : List A) → Once xs → ((a : A) → In a xs → In a ys) → length xs ≤ length ys
at_most [] ys once all = omega arith
at_most (x ∷ xs) ys once all =
    let w = without x ys (all x (inl refl)) in
    let few : length xs ≤ length w.0 =
    at_most xs w.0 once.1 (λ a there. w.1.others a (all a (inr there))
    (λ same. once.0 (subst (λ z. In z xs) same there))) in
    omega (arith, w.1.shorter)

-- the same where each element of the one list has an element of the other that is its own
pub at_most_related : {A B : Type 0} (R : A → B → Type 0) (xs : List A) (ys : List B) → Once xs
    → ((a : A) → In a xs → (b : B) × In b ys × R a b) → ((a a2 : A) (b : B) → R a b → R a2 b → a ≡ a2)
    → length xs ≤ length ys
at_most_related R [] ys once to one = omega arith
at_most_related R (x ∷ xs) ys once to one =
    let y = to x (inl refl) in
    let w = without y.0 ys y.1 in
    let few : length xs ≤ length w.0 = at_most_related R xs w.0 once.1
    (λ a there. (let z = to a (inr there) in (
      z.0,
      w.1.others z.0 z.1
          (λ same. once.0 (subst (λ v. In v xs) (one a x y.0 (subst (λ b. R a b) same z.2) y.2) there)),
      z.2,
    ))) one in
    omega (arith, w.1.shorter)

-- ---- a range of numbers
pub in_range : (i n a : ℕ) → i ≤ a → a < i + n → In a (range_with_len i n)
in_range i zero a from below = absurd (omega (arith, from, below))
in_range i (suc n) a from below = elim (cases_lt i a) [
  | inl more ↦ inr (in_range (i + 1) n a (omega (arith, more)) (omega (arith, below)))
  | inr same ↦ inl (omega (arith, from, same))
]

pub range_bounds : (i n a : ℕ) → In a (range_with_len i n) → (i ≤ a) × (a < i + n)
range_bounds i zero a there = absurd there
range_bounds i (suc n) a (inl same) = (omega arith, omega arith)
range_bounds i (suc n) a (inr later) = let r =
    range_bounds (i + 1) n a later in (omega (arith, r.0), omega (arith, r.1))
