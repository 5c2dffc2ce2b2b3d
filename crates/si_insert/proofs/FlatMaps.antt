-- What stands in lists joined end to end.
use Rattle.std.proofs.Common.{List, [], ◌∷◌, Contains, sym, subst, inl, inr}
use Rattle.std.specs.List.{flat_map}
use Rattle.std.proofs.lemmas.List.Elements.{Contains-append_left, Contains-append_right, Contains-append_cases}
use Rattle.si_graph.proofs.ListMembers.{Contains-here, Contains-there, Contains-cons_cases, Contains-nil}

module _ {X Y : Type 0} (f : X → List Y) where
  pub Contains-flat_map : (xs : List X) (x : X) (y : Y) → Contains xs x → Contains (f x) y → Contains (flat_map f xs) y
  Contains-flat_map [] x y there has = absurd (Contains-nil x there)
  Contains-flat_map (z ∷ xs) x y there has = elim (Contains-cons_cases z xs x there) [
    | inl same ↦
        (let P : X → Type 0 = λ w. Contains (f w) y in
        Contains-append_left (f z) (flat_map f xs) y (subst P (sym same) has))
    | inr later ↦ Contains-append_right (f z) (flat_map f xs) y (Contains-flat_map xs x y later has)
  ]

  pub Contains-from_flat_map : (xs : List X) (y : Y) → Contains (flat_map f xs) y
      → (x : X) × Contains xs x × Contains (f x) y
  Contains-from_flat_map [] y there = absurd (Contains-nil y there)
  Contains-from_flat_map (z ∷ xs) y there = elim (Contains-append_cases (f z) (flat_map f xs) y there) [
    | inl here ↦ (z, Contains-here z xs, here)
    | inr later ↦
        (let rest = Contains-from_flat_map xs y later in (rest.0, Contains-there z xs rest.0 rest.1, rest.2))
  ]
