-- The states of a block.
use Rattle.std.proofs.Common.{◌≡◌, ℕ, ◌<◌, ◌↔◌, Bool, false, List, length, get_or, sym, ◌∙◌}
use Rattle.std.proofs.Common.{arith, inl, inr}
use Rattle.std.proofs.lemmas.Bool.{cases_Bool, true≢false}
use Rattle.std.proofs.lemmas.List.{get_or_default, same_lists}
use Rattle.si_base.specs.Sets.{IsIn, IsUnion}

-- sets with the same states are equal
pub same_sets : (x y : List Bool) → length x ≡ length y → ((s : ℕ) → IsIn x s ↔ IsIn y s) → x ≡ y
same_sets x y size same = same_lists x y size (λ k d inside.
    get_or_default x k d false inside ∙ at k ∙ get_or_default y k false d
    ((let below : k < length y = omega (arith, size) in below)))
  where
    at : (k : ℕ) → get_or x k false ≡ get_or y k false
    at k = elim (cases_Bool (get_or x k false)) [
      | inl in_x ↦ in_x ∙ sym ((same k).0 in_x)
      | inr not_x ↦ elim (cases_Bool (get_or y k false)) [
        | inl in_y ↦ absurd (true≢false (sym ((same k).1 in_y) ∙ not_x))
        | inr not_y ↦ not_x ∙ sym not_y
      ]
    ]

-- a set with just the states of another one is that set
pub union_same : (none set copy : List Bool) → ((s : ℕ) → IsIn none s → ⊥) → length none ≡ length set
    → IsUnion none set copy → copy ≡ set
union_same none set copy empty size is = same_sets copy set (is.size ∙ size) (λ s. (
  λ there. elim (is.no_more s there) [ inl old ↦ absurd (empty s old) | inr other ↦ other ],
  λ there. is.has_other s there,
))
