-- Sets of states as lists in order.
use Rattle.std.proofs.Common.{◌≡◌, ℕ, suc, ◌<◌, List, [], ◌∷◌, get_or, All, Contains, refl, sym, subst, arith, inl, inr}
use Rattle.std.proofs.Common.{nat_cmp}
use Rattle.std.proofs.lemmas.List.Elements.{Contains-get_or}
use Rattle.std.specs.List.Sorted.{IsStrictlySortedBy}
use Rattle.si_base.proofs.OrderAscending.{In, nat_less, sorted_at}
use Rattle.si_base.proofs.GivenGraphUnique.{contains_from_in, same_numbers}
use Rattle.si_base.proofs.OrderLemmas.{in_contains}
use Rattle.si_regions.specs.Regions.{IsSetOf, least}

pub contains_only : (s : ℕ) → Contains (s ∷ []) s
contains_only s = contains_from_in (s ∷ []) s (inl refl)

pub only_in : (s t : ℕ) → Contains (s ∷ []) t → t ≡ s
only_in s t there = pick (in_contains (s ∷ []) t there)
  where
    pick : In t (s ∷ []) → t ≡ s
    pick (inl same) = same
    pick (inr none) = absurd none

pub one_set : (P : ℕ → Type 0) (x y : List ℕ) → IsSetOf P x → IsSetOf P y → x ≡ y
one_set P x y a b = same_numbers x y a.in_order b.in_order
    (λ s there. (b.exactly s).1 ((a.exactly s).0 there)) (λ s there. (a.exactly s).1 ((b.exactly s).0 there))

first_least : (s : ℕ) (set : List ℕ) (t : ℕ) → IsStrictlySortedBy nat_cmp (s ∷ set) → In t set → s < t
first_least s set t order there =
    let place = contains_from_in set t there in
    let less = sorted_at nat_cmp (s ∷ set) order 0 (suc place.0) t (omega arith) (omega (arith, place.1)) in
    subst (λ n. s < n) place.2 (nat_less s (get_or set place.0 t) less)

pub least_is : (set : List ℕ) (s : ℕ) → IsStrictlySortedBy nat_cmp set → Contains set s
    → ((t : ℕ) → t < s → Contains set t → ⊥) → least set ≡ s
least_is [] s order there none = absurd (in_contains [] s there)
least_is (u ∷ set) s order there none = pick (in_contains (u ∷ set) s there)
  where
    pick : In s (u ∷ set) → u ≡ s
    pick (inl same) = sym same
    pick (inr later) =
        absurd (none u (first_least u set s order later) (contains_from_in (u ∷ set) u (inl refl)))

-- a list of states below a bound, as a call lends it
pub all_below : (xs set : List ℕ) (n : ℕ) → xs ≡ set → ((t : ℕ) → Contains set t → t < n) → All (λ s. s < n) xs
all_below xs set n same below k d inside =
    below (get_or xs k d) (subst (λ (l : List ℕ). Contains l (get_or xs k d)) same (Contains-get_or xs k d inside))
