-- What is left of a list once each needless item has gone.
use Rattle.std.proofs.Common.{◌≡◌, ◌≢◌, ℕ, zero, suc, ◌<◌, ◌⊎◌, Bool, true, false, List, [], ◌∷◌, ◌++◌, refl, sym, ap}
use Rattle.std.proofs.Common.{subst, ◌∙◌, arith, inl, inr, length, get_or, append_assoc, filter}
use Rattle.std.specs.List.{list_any, list_all}
use Rattle.std.proofs.lemmas.Bool.{cases_Bool, true≢false, false_from_ne_true, and_parts, and_from}
use Rattle.si_base.proofs.OrderAscending.{In}
use Rattle.si_cube.specs.Needed.{needed_from}

-- a test of an item beside the others
abbrev pub Needless : Type 0 → Type 0
Needless A = A → List A → Bool

-- ---- what stays was there
pub in_from_needed : {A : Type 0} (n : Needless A) (before xs : List A) (x : A) → In x (needed_from n before xs)
    → In x xs
in_from_needed n before [] x here = here
in_from_needed n before (y ∷ xs) x here = elim (cases_Bool (n y (before ++ xs))) [
  | inl goes ↦ (let rest : In x (needed_from n before xs) = rw goes at here in inr (in_from_needed n before xs x rest))
  | inr stays ↦ (let cases : (x ≡ y) ⊎ In x (needed_from n (before ++ y ∷ []) xs) = rw stays at here in
      elim cases [
        | inl same ↦ inl same
        | inr later ↦ inr (in_from_needed n (before ++ y ∷ []) xs x later)
      ])
]

pub in_append : {A : Type 0} (xs ys : List A) (x : A) → In x (xs ++ ys) → In x xs ⊎ In x ys
in_append [] ys x here = inr here
in_append (y ∷ xs) ys x (inl same) = inl (inl same)
in_append (y ∷ xs) ys x (inr later) = elim (in_append xs ys x later) [
  | inl left ↦ inl (inr left)
  | inr right ↦ inr right
]

pub in_left : {A : Type 0} (xs ys : List A) (x : A) → In x xs → In x (xs ++ ys)
in_left [] ys x here = absurd here
in_left (y ∷ xs) ys x (inl same) = inl same
in_left (y ∷ xs) ys x (inr later) = inr (in_left xs ys x later)

pub in_right : {A : Type 0} (xs ys : List A) (x : A) → In x ys → In x (xs ++ ys)
in_right [] ys x here = here
in_right (y ∷ xs) ys x here = inr (in_right xs ys x here)

-- each item of the one is an item of the other
abbrev pub IsWithin : {A : Type 0} → List A → List A → Type 0
IsWithin {A} smaller larger = (x : A) → In x smaller → In x larger

pub within_append : {A : Type 0} (before smaller larger : List A) → IsWithin smaller larger
    → IsWithin (before ++ smaller) (before ++ larger)
within_append before smaller larger within x here = elim (in_append before smaller x here) [
  | inl left ↦ in_left before larger x left
  | inr right ↦ in_right before larger x (within x right)
]

-- what is needless beside some is needless beside more
abbrev pub Grows : {A : Type 0} → Needless A → Type 0
Grows {A} n = (x : A) (smaller larger : List A) → IsWithin smaller larger → n x smaller ≡ true → n x larger ≡ true

-- ---- what stays is needed
abbrev pub AreNeeded : {A : Type 0} → Needless A → List A → List A → Type 0
AreNeeded n before [] = Unit {0}
AreNeeded n before (x ∷ xs) = (n x (before ++ xs) ≡ false) × AreNeeded n (before ++ x ∷ []) xs

pub are_needed : {A : Type 0} (n : Needless A) (before xs : List A) → Grows n
    → AreNeeded n before (needed_from n before xs)
are_needed n before [] grows = tt
are_needed {A} n before (x ∷ xs) grows = elim (cases_Bool (n x (before ++ xs))) [
  | inl goes ↦ rw goes (are_needed n before xs grows)
  | inr stays ↦ (
      let rest : List A = needed_from n (before ++ x ∷ []) xs in
      let here : n x (before ++ rest) ≡ false = false_from_ne_true (n x (before ++ rest)) (λ needless.
      true≢false (sym (grows x (before ++ rest) (before ++ xs)
      (within_append before rest xs (in_from_needed n (before ++ x ∷ []) xs)) needless) ∙ stays)) in
      rw stays (here, are_needed n (before ++ x ∷ []) xs grows))
]

-- ---- what the list serves for, it still serves for
pub still_serves : {A : Type 0} (n : Needless A) (Serves : List A → Type 0)
    → ((before xs : List A) (x : A) → Serves (before ++ x ∷ xs) → n x (before ++ xs) ≡ true → Serves (before ++ xs))
    → (before xs : List A) → Serves (before ++ xs) → Serves (before ++ needed_from n before xs)
still_serves n Serves one before [] serves = serves
still_serves {A} n Serves one before (x ∷ xs) serves = elim (cases_Bool (n x (before ++ xs))) [
  | inl goes ↦ rw goes (still_serves n Serves one before xs (one before xs x serves goes))
  | inr stays ↦ rw stays (subst Serves (append_assoc before (x ∷ []) (needed_from n (before ++ x ∷ []) xs))
      (still_serves n Serves one (before ++ x ∷ []) xs (subst Serves (sym (append_assoc before (x ∷ []) xs)) serves)))
]

-- ---- by places
-- the items but the i-th
abbrev pub others : {A : Type 0} → List A → ℕ → List A
others [] i = []
others (x ∷ xs) zero = xs
others (x ∷ xs) (suc i) = x ∷ others xs i

pub needed_at : {A : Type 0} (n : Needless A) (before xs : List A) → AreNeeded n before xs → (i : ℕ) (d : A)
    → i < length xs → n (get_or xs i d) (before ++ others xs i) ≡ false
needed_at n before [] needed i d within = absurd (omega arith)
needed_at n before (x ∷ xs) needed zero d within = needed.0
needed_at {A} n before (x ∷ xs) needed (suc i) d within =
    let P : List A → Type 0 = λ ys. n (get_or xs i d) ys ≡ false in
    subst P (append_assoc before (x ∷ []) (others xs i)) (needed_at n (before ++ x ∷ []) xs needed.1 i d (omega arith))

-- an item at another place is one of the others
pub in_others : {A : Type 0} (xs : List A) (i j : ℕ) (d : A) → j < length xs → j ≢ i → In (get_or xs j d) (others xs i)
in_others [] i j d within apart = absurd (omega arith)
in_others (x ∷ xs) zero zero d within apart = absurd (apart refl)
in_others (x ∷ xs) zero (suc j) d within apart = at xs j d (omega arith)
  where
    at : {A : Type 0} (xs : List A) (j : ℕ) (d : A) → j < length xs → In (get_or xs j d) xs
    at [] j d within = absurd (omega arith)
    at (x ∷ xs) zero d within = inl refl
    at (x ∷ xs) (suc j) d within = inr (at xs j d (omega arith))
in_others (x ∷ xs) (suc i) zero d within apart = inl refl
in_others (x ∷ xs) (suc i) (suc j) d within apart = inr (in_others xs i j d (omega arith) (λ same. apart (ap suc same)))

-- an item that differs from the i-th is one of the others
pub differs_in_others : {A : Type 0} (xs : List A) (i : ℕ) (d x : A) → In x xs → x ≢ get_or xs i d → In x (others xs i)
differs_in_others [] i d x here apart = here
differs_in_others (y ∷ xs) zero d x (inl same) apart = absurd (apart same)
differs_in_others (y ∷ xs) zero d x (inr later) apart = later
differs_in_others (y ∷ xs) (suc i) d x (inl same) apart = inl same
differs_in_others (y ∷ xs) (suc i) d x (inr later) apart = inr (differs_in_others xs i d x later apart)

-- ---- tests over lists
pub all_in : {A : Type 0} (p : A → Bool) (xs : List A) → list_all p xs ≡ true → (x : A) → In x xs → p x ≡ true
all_in p [] all x here = absurd here
all_in p (y ∷ xs) all x (inl same) = ap p same ∙ (and_parts (p y) (list_all p xs) all).0
all_in p (y ∷ xs) all x (inr later) = all_in p xs (and_parts (p y) (list_all p xs) all).1 x later

pub all_from_in : {A : Type 0} (p : A → Bool) (xs : List A) → ((x : A) → In x xs → p x ≡ true) → list_all p xs ≡ true
all_from_in p [] each = refl
all_from_in p (y ∷ xs) each =
    and_from (p y) (list_all p xs) (each y (inl refl)) (all_from_in p xs (λ x later. each x (inr later)))

pub any_from_in : {A : Type 0} (p : A → Bool) (xs : List A) (x : A) → In x xs → p x ≡ true → list_any p xs ≡ true
any_from_in p [] x here holds = absurd here
any_from_in p (y ∷ xs) x (inl same) holds = let at : p y ≡ true = ap p (sym same) ∙ holds in rw at refl
any_from_in p (y ∷ xs) x (inr later) holds = elim (cases_Bool (p y)) [
  | inl at ↦ rw at refl
  | inr not ↦ rw not (any_from_in p xs x later holds)
]

pub any_in : {A : Type 0} (p : A → Bool) (xs : List A) → list_any p xs ≡ true → (x : A) × In x xs × (p x ≡ true)
any_in p [] any = absurd (true≢false (sym any))
any_in p (y ∷ xs) any = elim (cases_Bool (p y)) [
  | inl at ↦ (y, inl refl, at)
  | inr not ↦ (let rest = any_in p xs (rw not at any) in (rest.0, inr rest.1, rest.2))
]

pub in_kept : {A : Type 0} (p : A → Bool) (xs : List A) (l : A) → In l xs → p l ≡ true → In l (filter p xs)
in_kept p [] l there on = absurd there
in_kept p (x ∷ xs) l (inl same) on = let here : p x ≡ true = ap p (sym same) ∙ on in rw here (inl same)
in_kept p (x ∷ xs) l (inr later) on = elim (cases_Bool (p x)) [
  | inl here ↦ rw here (inr (in_kept p xs l later on))
  | inr not_here ↦ rw not_here (in_kept p xs l later on)
]
