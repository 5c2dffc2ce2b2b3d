-- When two sets are the same.
use Rattle.std.proofs.Common.{◌≡◌, ℕ, suc, ◌<◌, Bool, true, false, List, [], ◌∷◌, length, get_or}
use Rattle.std.proofs.Common.{refl, sym, ap, ap₂, subst, ◌∙◌, arith}
use Rattle.std.proofs.Common.{IsTrue, ◌↔◌}
use mathlib.Core.Bool.{beq}
use Rattle.std.proofs.lemmas.Bool.{true≢false, and_parts}
use Rattle.si_base.specs.Sets.{IsSubset}
use Rattle.si_base.proofs.GraphSteps.{beq-refl, beq-true}
use Rattle.si_closures.proofs.SameStates.{same_states}
use Rattle.si_candidates.specs.Blocks.{same_set}

-- ---- the test
pub same_set-true : (xs ys : List Bool) → same_set xs ys ≡ true → xs ≡ ys
same_set-true [] [] h = refl
same_set-true [] (y ∷ ys) h = absurd (true≢false (sym h))
same_set-true (x ∷ xs) [] h = absurd (true≢false (sym h))
same_set-true (x ∷ xs) (y ∷ ys) h =
    let p = and_parts (beq x y) (same_set xs ys) h in
    ap₂ (λ a b. a ∷ b) (beq-true x y p.0) (same_set-true xs ys p.1)

pub same_set-all : (xs ys : List Bool) → length xs ≡ length ys
    → ((t : ℕ) → t < length xs → get_or xs t false ≡ get_or ys t false) → same_set xs ys ≡ true
same_set-all [] [] size same = refl
same_set-all [] (y ∷ ys) size same = absurd (omega arith)
same_set-all (x ∷ xs) [] size same = absurd (omega arith)
same_set-all (x ∷ xs) (y ∷ ys) size same =
    let head : x ≡ y = same 0 (omega arith) in
    let e : beq x y ≡ true = ap (λ b. beq x b) (sym head) ∙ beq-refl x in
    rw e (same_set-all xs ys (omega arith) (λ t h. same (suc t) (omega arith)))

-- sets of which something differs differ
pub same_set-not : {A : Type 0} (of : List Bool → A) (xs ys : List Bool) → (of xs ≡ of ys → ⊥)
    → same_set xs ys ≡ false
same_set-not of xs ys differ = not_true (same_set xs ys) (λ same. differ (ap of (same_set-true xs ys same)))
  where
    not_true : (b : Bool) → (b ≡ true → ⊥) → b ≡ false
    not_true true h = absurd (h refl)
    not_true false h = refl

-- ---- sets within one another
pub not_same : (xs ys : List Bool) → (IsSubset xs ys → ⊥) → false ≡ same_set xs ys
not_same xs ys out = sym (same_set-not (λ (set : List Bool). set) xs ys
    (λ same. out (subst (λ set. IsSubset xs set) same (λ s here. here))))

pub same_if_back : (xs ys : List Bool) (back : Bool) → length xs ≡ length ys → IsSubset xs ys
    → IsTrue back ↔ IsSubset ys xs → back ≡ same_set xs ys
same_if_back xs ys true size within is =
    let same = same_states xs ys size within (is.0 refl) in
    sym (same_set-all xs ys size (λ t inside. ap (λ set. get_or set t false) same))
same_if_back xs ys false size within is = sym (same_set-not (λ (set : List Bool). set) xs ys
    (λ same. true≢false (sym (is.1 (subst (λ set. IsSubset set xs) same (λ s here. here))))))
