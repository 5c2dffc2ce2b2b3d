-- What filter and map keep of a list.
use Rattle.std.proofs.Common.{◌≡◌, zero, suc, Bool, true, refl, arith, List, [], ◌∷◌, Contains, map, filter, inl, inr}
use Rattle.std.proofs.Common.{◌⊎◌}
use Rattle.std.proofs.lemmas.Bool.{cases_Bool}

module _ {X : Type 0} where
  pub Contains-here : (x : X) (xs : List X) → Contains (x ∷ xs) x
  Contains-here x xs = (0, omega arith, refl)

  pub Contains-there : (x : X) (xs : List X) (y : X) → Contains xs y → Contains (x ∷ xs) y
  Contains-there x xs y (k, within, at) = (suc k, omega arith, at)

  pub Contains-cons_cases : (x : X) (xs : List X) (y : X) → Contains (x ∷ xs) y → (x ≡ y) ⊎ Contains xs y
  Contains-cons_cases x xs y (zero, within, at) = inl at
  Contains-cons_cases x xs y (suc k, within, at) = inr (k, omega arith, at)

  pub Contains-nil : (y : X) → Contains [] y → ⊥
  Contains-nil y (k, within, at) = absurd (omega arith)

  pub Contains-filter : (p : X → Bool) (xs : List X) (y : X) → Contains xs y → p y ≡ true → Contains (filter p xs) y
  Contains-filter p [] y there passes = absurd (Contains-nil y there)
  Contains-filter p (x ∷ xs) y there passes = elim (Contains-cons_cases x xs y there) [
    | inl same ↦ rw (same, passes) (Contains-here y (filter p xs))
    | inr later ↦ elim (cases_Bool (p x)) [
      | inl yes_x ↦ rw yes_x (Contains-there x (filter p xs) y (Contains-filter p xs y later passes))
      | inr no_x ↦ rw no_x (Contains-filter p xs y later passes)
    ]
  ]

  pub Contains-from_filter : (p : X → Bool) (xs : List X) (y : X) → Contains (filter p xs) y
      → Contains xs y × (p y ≡ true)
  Contains-from_filter p [] y there = absurd (Contains-nil y there)
  Contains-from_filter p (x ∷ xs) y there = elim (cases_Bool (p x)) [
    | inl yes_x ↦ elim (Contains-cons_cases x (filter p xs) y (rw yes_x at there)) [
      | inl same ↦ rw (← same) (Contains-here x xs, yes_x)
      | inr later ↦ let rest = Contains-from_filter p xs y later in (Contains-there x xs y rest.0, rest.1)
    ]
    | inr no_x ↦ let rest = Contains-from_filter p xs y (rw no_x at there) in (Contains-there x xs y rest.0, rest.1)
  ]

module _ {X Y : Type 0} (f : X → Y) where
  pub Contains-map : (xs : List X) (x : X) → Contains xs x → Contains (map f xs) (f x)
  Contains-map [] x there = absurd (Contains-nil x there)
  Contains-map (z ∷ xs) x there = elim (Contains-cons_cases z xs x there) [
    | inl same ↦ rw (← same) (Contains-here (f z) (map f xs))
    | inr later ↦ Contains-there (f z) (map f xs) (f x) (Contains-map xs x later)
  ]

  pub Contains-from_map : (xs : List X) (y : Y) → Contains (map f xs) y → (x : X) × Contains xs x × (f x ≡ y)
  Contains-from_map [] y there = absurd (Contains-nil y there)
  Contains-from_map (z ∷ xs) y there = elim (Contains-cons_cases (f z) (map f xs) y there) [
    | inl same ↦ (z, Contains-here z xs, same)
    | inr later ↦ let rest = Contains-from_map xs y later in (rest.0, Contains-there z xs rest.0 rest.1, rest.2)
  ]
