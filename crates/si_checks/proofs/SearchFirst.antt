-- The first of finitely many, in the order of places.
use Rattle.std.proofs.Common.{◌≡◌, ℕ, ◌⊎◌, List, [], ◌∷◌, length, Contains, Option, Some, None, refl, sym, ap₂, subst}
use Rattle.std.proofs.Common.{◌∙◌, arith, inl, inr}
use Rattle.std.proofs.lemmas.Bool.{cases_order}
use Rattle.si_base.specs.Order.{Before, IsFirst}
use Rattle.si_base.proofs.OrderLemmas.{before_itself}
use Rattle.si_checks.specs.Loops.Searches.{IsFirstOrNone}
use Rattle.si_graph.proofs.ListMembers.{Contains-cons_cases, Contains-here, Contains-there, Contains-nil}

-- ---- the order of places
before_more : (xs ys zs : List ℕ) → Before xs ys → Before ys zs → Before xs zs
before_more [] ys zs one other = one
before_more (x ∷ xs) [] zs one other = absurd one
before_more (x ∷ xs) (y ∷ ys) [] one other = other
before_more (x ∷ xs) (y ∷ ys) (z ∷ zs) (inl less) (inl also) = inl (omega arith)
before_more (x ∷ xs) (y ∷ ys) (z ∷ zs) (inl less) (inr also) = inl (omega (arith, also.0))
before_more (x ∷ xs) (y ∷ ys) (z ∷ zs) (inr tied) (inl also) = inl (omega (arith, tied.0))
before_more (x ∷ xs) (y ∷ ys) (z ∷ zs) (inr tied) (inr also) =
    inr (tied.0 ∙ also.0, before_more xs ys zs tied.1 also.1)

before_or_not : (xs ys : List ℕ) → Before xs ys ⊎ (Before xs ys → ⊥)
before_or_not [] ys = inr (λ before. before)
before_or_not (x ∷ xs) [] = inr (λ before. before)
before_or_not (x ∷ xs) (y ∷ ys) = elim (cases_order x y) [
  | inl same ↦ elim (before_or_not xs ys) [
    | inl before ↦ inl (inr (same, before))
    | inr not_before ↦ inr (λ before. elim before [ inl less ↦ absurd (omega arith) | inr tied ↦ not_before tied.1 ])
  ]
  | inr (inl less) ↦ inl (inl less)
  | inr (inr more) ↦ inr (λ before. elim before [
    | inl less ↦ absurd (omega arith)
    | inr tied ↦ absurd (omega (arith, tied.0))
  ])
]

-- of two places of one length neither of which is before the other
same_place : (xs ys : List ℕ) → length xs ≡ length ys → (Before xs ys → ⊥) → (Before ys xs → ⊥) → xs ≡ ys
same_place [] [] size not_before not_after = refl
same_place [] (y ∷ ys) size not_before not_after = absurd (omega arith)
same_place (x ∷ xs) [] size not_before not_after = absurd (omega arith)
same_place (x ∷ xs) (y ∷ ys) size not_before not_after = elim (cases_order x y) [
  | inl same ↦ ap₂ (λ (n : ℕ) (ns : List ℕ). n ∷ ns) same
      (same_place xs ys (omega arith) (λ before. not_before (inr (same, before)))
      (λ before. not_after (inr (sym same, before))))
  | inr (inl less) ↦ absurd (not_before (inl less))
  | inr (inr more) ↦ absurd (not_after (inl more))
]

-- two firsts stand at one place
pub firsts_at_one_place : {A : Type 0} (place : A → List ℕ) (P : A → Type 0) (x y : A)
    → length (place x) ≡ length (place y) → IsFirst place P x → IsFirst place P y → place x ≡ place y
firsts_at_one_place place P x y size is also =
    same_place (place x) (place y) size (also.none_before x is.holds) (is.none_before y also.holds)

-- ---- the first of a list
module _ {A : Type 0} (place : A → List ℕ) where
  -- the first of the list, or None where it is empty
  abbrev IsFirstIn : List A → Option A → Type 0
  IsFirstIn xs None = (y : A) → Contains xs y → ⊥
  IsFirstIn xs (Some x) = Contains xs x × ((y : A) → Contains xs y → Before (place y) (place x) → ⊥)

  with_first : (x : A) (xs : List A) (found : Option A) → IsFirstIn xs found
      → (first : Option A) × IsFirstIn (x ∷ xs) first
  with_first x xs None none = (
    Some x,
    (
      Contains-here x xs,
      λ y there before. elim (Contains-cons_cases x xs y there) [
        | inl same ↦ before_itself (place x) (subst (λ (z : A). Before (place z) (place x)) (sym same) before)
        | inr later ↦ none y later
      ],
    ),
  )
  with_first x xs (Some b) is = elim (before_or_not (place x) (place b)) [
    | inl earlier ↦ (
      Some x,
      (
        Contains-here x xs,
        λ y there before. elim (Contains-cons_cases x xs y there) [
          | inl same ↦ before_itself (place x) (subst (λ (z : A). Before (place z) (place x)) (sym same) before)
          | inr later ↦ is.1 y later (before_more (place y) (place x) (place b) before earlier)
        ],
      ),
    )
    | inr not_earlier ↦ (
      Some b,
      (
        Contains-there x xs b is.0,
        λ y there before. elim (Contains-cons_cases x xs y there) [
          | inl same ↦ not_earlier (subst (λ (z : A). Before (place z) (place b)) (sym same) before)
          | inr later ↦ is.1 y later before
        ],
      ),
    )
  ]

  first_in : (xs : List A) → (found : Option A) × IsFirstIn xs found
  first_in [] = (None, λ y there. absurd (Contains-nil y there))
  first_in (x ∷ xs) = let rest = first_in xs in with_first x xs rest.0 rest.1

  -- the first that has P, where a list has just those that do
  module _ (P : A → Type 0) (xs : List A) (sound : (x : A) → Contains xs x → P x)
      (whole : (x : A) → P x → Contains xs x) where
    first_by : (found : Option A) → IsFirstIn xs found → IsFirstOrNone place P found
    first_by None none = λ x is. none x (whole x is)
    first_by (Some x) is =
        record { holds = sound x is.0; none_before = λ y also before. is.1 y (whole y also) before }

    pub first_or_none : (found : Option A) × IsFirstOrNone place P found
    first_or_none = let r = first_in xs in (r.0, first_by r.0 r.1)
