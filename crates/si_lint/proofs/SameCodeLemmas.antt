-- States of equal code that are no conflict, by rings of states and by keys.
use Rattle.std.proofs.Common.{◌≡◌, ◌≢◌, ℕ, ◌<◌, List, [], ◌∷◌, ◌++◌, refl, sym, ap, subst, ◌∙◌}
use Rattle.std.proofs.Common.{arith, inl, inr}
use Rattle.std.proofs.lemmas.Bool.{cases_order}
use Rattle.std.proofs.lemmas.List.{map-append}
use Rattle.si_base.specs.Codes.{CodedGraph, IsCoded, code}
use Rattle.si_base.specs.Order.{Before}
use Rattle.si_base.specs.Proper.{pair_place}
use Rattle.si_carried.specs.Lint.{IsSameCode}
use Rattle.si_conflicts.specs.declared.keys.Key.{Key}
use Rattle.si_conflicts.specs.declared.conflicts.Pair.{Pair}
use Rattle.si_conflicts.specs.Conflicts.{pairs_of}
use Rattle.si_conflicts.specs.Loops.Chains.{IsNextInRing}
use Rattle.si_conflicts.specs.Loops.Keys.{IsKey}
use Rattle.si_conflicts.proofs.KeyLemmas.{apart_conflict, same_no_conflict}
use Rattle.si_told.specs.Loops.Search.{Adds}
use Rattle.si_told.proofs.Alls.{adds_none, adds_one}

pub first_order : (c : CodedGraph) (x y : ℕ × ℕ) → IsSameCode c x → IsSameCode c y → x.0 < y.0
    → Before (pair_place x) (pair_place y)
first_order c x y p q less = inl less

same_pair : (a b : ℕ × ℕ) → a.0 ≡ b.0 → a.1 ≡ b.1 → a ≡ b
same_pair a b first second = λ i. (first i, second i)

-- the next of a ring is a state
pub ring_within : (c : CodedGraph) (p q : ℕ) → IsNextInRing c p q → q < c.graph.states
ring_within c p q (inl next) = next.below
ring_within c p q (inr first) = first.1.below

-- a pair that is put last
pub pushed_pair : (old new : List Pair) (p q : ℕ) → new ≡ old ++ record { p = p; q = q } ∷ []
    → pairs_of new ≡ pairs_of old ++ (p, q) ∷ []
pushed_pair old new p q is =
    let As : Pair → ℕ × ℕ = λ x. (x.p, x.q) in
    ap pairs_of is ∙ map-append As old (record { p = p; q = q } ∷ [])

module _ (c : CodedGraph) (coded : IsCoded c) (p q : ℕ) (ring : IsNextInRing c p q) where
  -- a later state of the ring is the next of the code
  later_is : (t : ℕ) → p < t → t < c.graph.states → code c p ≡ code c t
      → ((u : ℕ) → p < u → u < t → code c p ≢ code c u) → q ≡ t
  later_is t after within same between = elim ring [
    | inl next ↦ elim (cases_order q t) [
      | inl here ↦ here
      | inr (inl less) ↦ absurd (between q (omega (arith, next.from)) less (sym next.holds))
      | inr (inr more) ↦ absurd (next.none_before t (omega arith) more (sym same))
    ]
    | inr first ↦ absurd (first.0 t (omega arith) within (sym same))
  ]

  pub same_here : (x y : Key) (old new : List (ℕ × ℕ)) → p < c.graph.states → p < q → q < c.graph.states
      → IsKey c p x → IsKey c q y → x.excited ≡ y.excited → new ≡ old ++ (p, q) ∷ []
      → Adds pair_place (λ pair. IsSameCode c pair × (pair.0 ≡ p)) old new
  same_here x y old new inside order within is_x is_y same pushed =
      adds_one pair_place (λ pair. IsSameCode c pair × (pair.0 ≡ p)) old new (p, q) (is, refl) only pushed
    where
      parts : (code c p ≡ code c q) × ((u : ℕ) → p < u → u < q → code c p ≢ code c u)
      parts = elim ring [
        | inl next ↦ (sym next.holds, λ u after before same. next.none_before u (omega arith) before (sym same))
        | inr first ↦ absurd (first.1.none_before p (omega arith) order refl)
      ]

      is : IsSameCode c (p, q)
      is = record {
        order = order;
        within = within;
        same = parts.0;
        next = parts.1;
        no_conflict = λ conflict. same_no_conflict c coded.values p q x y is_x is_y same conflict;
      }

      only : (pair : ℕ × ℕ) → IsSameCode c pair × (pair.0 ≡ p) → (p, q) ≡ pair
      only pair (also, at) =
          let is_p : IsSameCode c (p, pair.1) = subst (IsSameCode c) (same_pair pair (p, pair.1) at refl) also in
          same_pair (p, q) pair (sym at) (later_is pair.1 is_p.order is_p.within is_p.same is_p.next)

  pub same_pass : (x y : Key) (old : List (ℕ × ℕ)) → IsKey c p x → IsKey c q y
      → ((p < q) × (x.excited ≡ y.excited) → ⊥)
      → Adds pair_place (λ pair. IsSameCode c pair × (pair.0 ≡ p)) old old
  same_pass x y old is_x is_y other =
      adds_none pair_place (λ pair. IsSameCode c pair × (pair.0 ≡ p)) old none
    where
      none : (pair : ℕ × ℕ) → IsSameCode c pair × (pair.0 ≡ p) → ⊥
      none pair (also, at) =
          let is_p : IsSameCode c (p, pair.1) = subst (IsSameCode c) (same_pair pair (p, pair.1) at refl) also in
          let next = later_is pair.1 is_p.order is_p.within is_p.same is_p.next in
          let is : IsSameCode c (p, q) = subst (λ (t : ℕ). IsSameCode c (p, t)) (sym next) is_p in
          is.no_conflict (apart_conflict c coded.values p q x y is_x is_y is.order is.within is.same
          (λ same. other (is.order, same)))
