-- States that folding would merge.
use Rattle.std.proofs.Common.{◌≡◌, ◌≢◌, ℕ, ◌<◌, ◌≤◌, ◌==◌, Bool, true, false, not, List, [], ◌∷◌, ◌++◌, length, refl}
use Rattle.std.proofs.Common.{sym, ap, subst, ◌∙◌, arith, inl, eq-eqb, eqb-true, slice_index, get_or}
use Rattle.std.proofs.lemmas.Bool.{true≢false}
use Rattle.std.proofs.lemmas.Option.{slice_get-get_or, slice_get_within, same_Some}
use Rattle.si_base.specs.Codes.{CodedGraph}
use Rattle.si_base.specs.Order.{Before}
use Rattle.si_fold.specs.Alike.{IsLeastAlike}
use Rattle.si_fold.specs.Folded.{AreClasses}
use Rattle.si_lint.specs.Findings.{IsMerged, merged_place}
use Rattle.si_told.specs.Loops.Search.{Adds}
use Rattle.si_told.proofs.Alls.{adds_none, adds_one}

pub later_order : (c : CodedGraph) (x y : ℕ × ℕ) → IsMerged c x → IsMerged c y → x.1 < y.1
    → Before (merged_place x) (merged_place y)
later_order c x y p q less = inl less

pub one_least : (c : CodedGraph) (s m n : ℕ) → IsLeastAlike c s m → IsLeastAlike c s n → m ≡ n
one_least c s m n is also =
    let low = is.least n also.alike in let high = also.least m is.alike in omega (arith, low, high)

pub same_pair : (a b : ℕ × ℕ) → a.0 ≡ b.0 → a.1 ≡ b.1 → a ≡ b
same_pair a b first second = λ i. (first i, second i)

module _ (c : CodedGraph) (p q : ℕ) (least : IsLeastAlike c q p) where
  least_is : (pair : ℕ × ℕ) → IsMerged c pair × (pair.1 ≡ q) → p ≡ pair.0
  least_is pair (also, at) =
      one_least c q p pair.0 least (subst (λ (t : ℕ). IsLeastAlike c t pair.0) at also.least)

  pub merged_here : (old new : List (ℕ × ℕ)) (differ : Bool) → differ ≡ not (p == q) → differ ≡ true
      → new ≡ old ++ (p, q) ∷ [] → Adds merged_place (λ pair. IsMerged c pair × (pair.1 ≡ q)) old new
  merged_here old new differ told yes_differ pushed =
      adds_one merged_place (λ pair. IsMerged c pair × (pair.1 ≡ q)) old new (p, q)
      (record { least = least; other = other }, refl)
      (λ pair also. same_pair (p, q) pair (least_is pair also) (sym also.1)) pushed
    where
      other : p ≢ q
      other same = true≢false (sym yes_differ ∙ told ∙ ap not (eq-eqb p q same))

  pub merged_pass : (old : List (ℕ × ℕ)) (differ : Bool) → differ ≡ not (p == q) → differ ≡ false
      → Adds merged_place (λ pair. IsMerged c pair × (pair.1 ≡ q)) old old
  merged_pass old differ told no_differ =
      adds_none merged_place (λ pair. IsMerged c pair × (pair.1 ≡ q)) old
      (λ pair also. also.0.other (sym (least_is pair also) ∙ eqb-true p q (kept_same (p == q) (sym told ∙ no_differ))
      ∙ sym also.1))
    where
      kept_same : (b : Bool) → not b ≡ false → b ≡ true
      kept_same true is = refl
      kept_same false is = absurd (true≢false is)

pub merged_within : (c : CodedGraph) (n : ℕ) → c.graph.states ≤ n → (pair : ℕ × ℕ) → IsMerged c pair → pair.1 < n
merged_within c n all pair is = omega (arith, is.least.alike.one_within)

-- the state that stands for another, as the code reads it
pub kept_is : (c : CodedGraph) (kept class : List ℕ) (s : ℕ) → AreClasses c kept class → s < c.graph.states
    → (slice_index class s < length kept) × IsLeastAlike c s (slice_index kept (slice_index class s))
kept_is c kept class s are within =
    let of = are.each s within in
    let k = slice_index class s in
    let inside = slice_get_within kept k of.0 of.2 in
    let same = same_Some of.0 (get_or kept k 0) (sym of.2 ∙ slice_get-get_or kept k 0 inside) in
    (inside, subst (IsLeastAlike c s) same of.1)
