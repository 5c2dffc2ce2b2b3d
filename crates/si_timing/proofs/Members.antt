-- Elements of lists that are filtered, mapped, joined or paired.
use Rattle.std.proofs.Common.{◌≡◌, ◌⊎◌, ℕ, zero, suc, ◌+◌, ◌<◌, ◌≤◌, ◌==◌, Bool, true, List, [], ◌∷◌, length, map}
use Rattle.std.proofs.Common.{filter, flat_map, get_or, Contains, refl, sym, ap, ◌∙◌, arith, inl, inr}
use Rattle.std.specs.List.{list_any, range_with_len, zip}
use Rattle.std.proofs.lemmas.Bool.{cases_Bool, cases_lt, true≢false}
use Rattle.std.proofs.lemmas.Bool.Decides.{eqb_tells}
use Rattle.std.proofs.lemmas.List.Elements.{Contains-append_cases, Contains-append_left, Contains-append_right}
use Rattle.si_base.specs.declared.ids.Literal.{Literal}

pub head_in : {A : Type 0} (x : A) (xs : List A) → Contains (x ∷ xs) x
head_in x xs = (0, omega arith, refl)

pub tail_in : {A : Type 0} (y x : A) (xs : List A) → Contains xs x → Contains (y ∷ xs) x
tail_in y x xs there = (suc there.0, omega (arith, there.1), there.2)

pub in_cases : {A : Type 0} (y x : A) (xs : List A) → Contains (y ∷ xs) x → (y ≡ x) ⊎ Contains xs x
in_cases y x xs (zero, within, is) = inl is
in_cases y x xs (suc k, within, is) = inr (k, omega (arith, within), is)

pub none_in : {A : Type 0} (x : A) → Contains [] x → ⊥
none_in x there = omega (arith, there.1)

-- ---- filtered

pub filter_in : {A : Type 0} (p : A → Bool) (xs : List A) (x : A) → Contains xs x → p x ≡ true
    → Contains (filter p xs) x
filter_in p [] x there passes = absurd (none_in x there)
filter_in p (y ∷ xs) x there passes = elim (in_cases y x xs there) [
  | inl same ↦ rw (ap p same ∙ passes) (0, omega arith, same)
  | inr later ↦ elim (cases_Bool (p y)) [
    | inl first ↦ rw first (tail_in y x (filter p xs) (filter_in p xs x later passes))
    | inr other ↦ rw other (filter_in p xs x later passes)
  ]
]

pub filter_from : {A : Type 0} (p : A → Bool) (xs : List A) (x : A) → Contains (filter p xs) x
    → Contains xs x × (p x ≡ true)
filter_from p [] x there = absurd (none_in x there)
filter_from p (y ∷ xs) x there = elim (cases_Bool (p y)) [
  | inl first ↦ elim (in_cases y x (filter p xs) (rw first at there)) [
    | inl same ↦ ((0, omega arith, same), ap p (sym same) ∙ first)
    | inr later ↦ (let rest = filter_from p xs x later in (tail_in y x xs rest.0, rest.1))
  ]
  | inr other ↦ (let rest = filter_from p xs x (rw other at there) in (tail_in y x xs rest.0, rest.1))
]

-- ---- mapped and joined

pub map_in : {A B : Type 0} (f : A → B) (xs : List A) (x : A) → Contains xs x → Contains (map f xs) (f x)
map_in f [] x there = absurd (none_in x there)
map_in f (y ∷ xs) x there = elim (in_cases y x xs there) [
  | inl same ↦ (0, omega arith, ap f same)
  | inr later ↦ tail_in (f y) (f x) (map f xs) (map_in f xs x later)
]

pub map_from : {A B : Type 0} (f : A → B) (xs : List A) (y : B) → Contains (map f xs) y
    → (x : A) × Contains xs x × (f x ≡ y)
map_from f [] y there = absurd (none_in y there)
map_from f (x ∷ xs) y there = elim (in_cases (f x) y (map f xs) there) [
  | inl same ↦ (x, head_in x xs, same)
  | inr later ↦ (let rest = map_from f xs y later in (rest.0, tail_in x rest.0 xs rest.1, rest.2))
]

pub joined_in : {A B : Type 0} (f : A → List B) (xs : List A) (x : A) (y : B) → Contains xs x → Contains (f x) y
    → Contains (flat_map f xs) y
joined_in f [] x y there inside = absurd (none_in x there)
joined_in f (z ∷ xs) x y there inside = elim (in_cases z x xs there) [
  | inl same ↦ Contains-append_left (f z) (flat_map f xs) y (rw same inside)
  | inr later ↦ Contains-append_right (f z) (flat_map f xs) y (joined_in f xs x y later inside)
]

pub joined_from : {A B : Type 0} (f : A → List B) (xs : List A) (y : B) → Contains (flat_map f xs) y
    → (x : A) × Contains xs x × Contains (f x) y
joined_from f [] y there = absurd (none_in y there)
joined_from f (x ∷ xs) y there = elim (Contains-append_cases (f x) (flat_map f xs) y there) [
  | inl first ↦ (x, head_in x xs, first)
  | inr later ↦ (let rest = joined_from f xs y later in (rest.0, tail_in x rest.0 xs rest.1, rest.2))
]

-- ---- paired

pub zip_in : {A B : Type 0} (ks : List A) (vs : List B) (k : ℕ) (a : A) (b : B) → k < length ks → k < length vs
    → Contains (zip ks vs) (get_or ks k a, get_or vs k b)
zip_in [] vs k a b within also = absurd (omega (arith, within))
zip_in (x ∷ ks) [] k a b within also = absurd (omega (arith, also))
zip_in (x ∷ ks) (v ∷ vs) zero a b within also = head_in (x, v) (zip ks vs)
zip_in (x ∷ ks) (v ∷ vs) (suc k) a b within also = tail_in (x, v) (get_or ks k a, get_or vs k b) (zip ks vs)
    (zip_in ks vs k a b (omega (arith, within)) (omega (arith, also)))

-- the pair is that of the elements at the place
pub record IsPairAt {A B : Type 0} (ks : List A) (vs : List B) (p : A × B) (k : ℕ) : Type 0 where
  pub first : k < length ks
  pub second : k < length vs
  pub key : (a : A) → get_or ks k a ≡ p.0
  pub value : (b : B) → get_or vs k b ≡ p.1

pub zip_from : {A B : Type 0} (ks : List A) (vs : List B) (p : A × B) → Contains (zip ks vs) p
    → (k : ℕ) × IsPairAt ks vs p k
zip_from [] vs p there = absurd (none_in p there)
zip_from (x ∷ ks) [] p there = absurd (none_in p there)
zip_from {A} {B} (x ∷ ks) (v ∷ vs) p there = elim (in_cases (x, v) p (zip ks vs) there) [
  | inl same ↦ (
    0,
    record {
      first = omega arith;
      second = omega arith;
      key = λ a. ap (λ (q : A × B). q.0) same;
      value = λ b. ap (λ (q : A × B). q.1) same;
    },
  )
  | inr later ↦ (let rest = zip_from ks vs p later in (
    suc rest.0,
    record {
      first = omega (arith, rest.1.first);
      second = omega (arith, rest.1.second);
      key = rest.1.key;
      value = rest.1.value;
    },
  ))
]

-- ---- ranges

pub range_in : (a n k : ℕ) → a ≤ k → k < a + n → Contains (range_with_len a n) k
range_in a zero k low high = absurd (omega (arith, low, high))
range_in a (suc n) k low high = elim (cases_lt a k) [
  | inl less ↦ tail_in a k (range_with_len (a + 1) n) (range_in (a + 1) n k (omega (arith, less)) (omega (arith, high)))
  | inr at_least ↦ (0, omega arith, omega (arith, low, at_least))
]

-- ---- literals

pub any_in : (literals : List Literal) (k y : ℕ) (d : Literal) → k < length literals → (get_or literals k d).sig ≡ y
    → list_any (λ l. l.sig == y) literals ≡ true
any_in [] k y d within is = absurd (omega (arith, within))
any_in (l ∷ ls) zero y d within is = elim (eqb_tells l.sig y) [
  | inl same ↦ rw same.0 refl
  | inr other ↦ absurd (other.1 is)
]
any_in (l ∷ ls) (suc k) y d within is = elim (cases_Bool (l.sig == y)) [
  | inl first ↦ rw first refl
  | inr other ↦ rw other (any_in ls k y d (omega (arith, within)) is)
]

pub any_from : (literals : List Literal) (y : ℕ) → list_any (λ l. l.sig == y) literals ≡ true
    → (k : ℕ) × (k < length literals) × ((d : Literal) → (get_or literals k d).sig ≡ y)
any_from [] y is = absurd (true≢false (sym is))
any_from (l ∷ ls) y is = elim (eqb_tells l.sig y) [
  | inl same ↦ (0, omega arith, λ d. same.1)
  | inr other ↦ (let rest = any_from ls y (rw other.0 at is) in (suc rest.0, omega (arith, rest.1), rest.2))
]
