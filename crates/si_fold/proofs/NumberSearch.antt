-- Searches below a bound, and sums.
use Rattle.std.proofs.Common.{◌≡◌, ◌⊎◌, ℕ, ◌+◌, ◌<◌, ◌≤◌, zero, suc, Bool, true, false, List, [], ◌∷◌, Contains, refl}
use Rattle.std.proofs.Common.{ap, subst, ◌∙◌, arith, inl, inr}
use Rattle.std.specs.List.{list_all}
use Rattle.std.proofs.lemmas.Bool.{cases_eq, cases_Bool, and_from}
use Rattle.si_graph.proofs.ListMembers.{Contains-here, Contains-there}

pub all_pass : {A : Type 0} (test : A → Bool) (xs : List A) → ((x : A) → Contains xs x → test x ≡ true)
    → list_all test xs ≡ true
all_pass test [] each = refl
all_pass test (x ∷ xs) each = and_from (test x) (list_all test xs) (each x (Contains-here x xs))
    (all_pass test xs (λ y there. each y (Contains-there x xs y there)))

pub all_or_one : (test : ℕ → Bool) (n : ℕ) → ((i : ℕ) → i < n → test i ≡ true)
    ⊎ ((i : ℕ) × (i < n) × (test i ≡ false))
all_or_one test zero = inl (λ i below. absurd (omega arith))
all_or_one test (suc n) = elim (all_or_one test n) [
  | inr found ↦ inr (found.0, omega (arith, found.1), found.2)
  | inl all ↦ elim (cases_Bool (test n)) [
    | inr fails ↦ inr (n, omega arith, fails)
    | inl passes ↦ inl (λ i below. elim (cases_eq i n) [
      | inl same ↦ ap test same ∙ passes
      | inr other ↦ all i (omega (arith, below, other))
    ])
  ]
]

pub all_or_pair : (test : ℕ → ℕ → Bool) (m n : ℕ) → ((i j : ℕ) → i < n → j < m → test i j ≡ true)
    ⊎ ((i : ℕ) × (j : ℕ) × (i < n) × (j < m) × (test i j ≡ false))
all_or_pair test m zero = inl (λ i j below. absurd (omega arith))
all_or_pair test m (suc n) = elim (all_or_pair test m n) [
  | inr found ↦ inr (found.0, found.1, omega (arith, found.2), found.3, found.4)
  | inl all ↦ elim (all_or_one (test n) m) [
    | inr found ↦ inr (n, found.0, omega arith, found.1, found.2)
    | inl last ↦ inl (λ i j below inside. elim (cases_eq i n) [
      | inl same ↦ ap (λ (k : ℕ). test k j) same ∙ last j inside
      | inr other ↦ all i j (omega (arith, below, other)) inside
    ])
  ]
]

-- m is the first that passes
pub record IsFirstTrue (test : ℕ → Bool) (m : ℕ) : Type 0 where
  pub passes : test m ≡ true
  pub before : (i : ℕ) → i < m → test i ≡ false

pub first_true : (test : ℕ → Bool) (n : ℕ) → ((i : ℕ) → i < n → test i ≡ false)
    ⊎ ((m : ℕ) × (m < n) × IsFirstTrue test m)
first_true test zero = inl (λ i below. absurd (omega arith))
first_true test (suc n) = elim (first_true test n) [
  | inr found ↦ inr (found.0, omega (arith, found.1), found.2)
  | inl none ↦ elim (cases_Bool (test n)) [
    | inl passes ↦ inr (n, omega arith, record { passes = passes; before = none })
    | inr fails ↦ inl (λ i below. elim (cases_eq i n) [
      | inl same ↦ ap test same ∙ fails
      | inr other ↦ none i (omega (arith, below, other))
    ])
  ]
]

-- f 0 + .. + f (n - 1)
abbrev pub sum_to : (ℕ → ℕ) → ℕ → ℕ
sum_to f zero = 0
sum_to f (suc n) = f n + sum_to f n

pub sums_up : (f h : ℕ → ℕ) (n : ℕ) → ((i : ℕ) → i < n → f i ≤ h i) → sum_to f n ≤ sum_to h n
sums_up f h zero each = omega arith
sums_up f h (suc n) each =
    let rest = sums_up f h n (λ i below. each i (omega arith)) in
    let last = each n (omega arith) in
    omega (arith, rest, last)

pub sums_apart : (f h : ℕ → ℕ) (n k : ℕ) → ((i : ℕ) → i < n → f i ≤ h i) → k < n → f k < h k → sum_to f n < sum_to h n
sums_apart f h zero k each below less = absurd (omega (arith, below))
sums_apart f h (suc n) k each below less = elim (cases_eq k n) [
  | inl same ↦ (
      let rest = sums_up f h n (λ i low. each i (omega arith)) in
      let last : f n < h n = subst (λ (j : ℕ). f j < h j) same less in
      omega (arith, rest, last))
  | inr other ↦ (
      let rest = sums_apart f h n k (λ i low. each i (omega arith)) (omega (arith, below, other)) less in
      let last = each n (omega arith) in
      omega (arith, rest, last))
]
