-- Sets with the same states are the same.
use Rattle.std.proofs.Common.{◌≡◌, ℕ, suc, Bool, List, [], ◌∷◌, length, refl, ap₂, arith}
use Rattle.si_base.specs.Sets.{IsIn}
use Rattle.si_base.proofs.Booleans.{same_if}

pub same_states : (xs ys : List Bool) → length xs ≡ length ys → ((s : ℕ) → IsIn xs s → IsIn ys s)
    → ((s : ℕ) → IsIn ys s → IsIn xs s) → xs ≡ ys
same_states [] [] size to back = refl
same_states [] (y ∷ ys) size to back = absurd (omega arith)
same_states (x ∷ xs) [] size to back = absurd (omega arith)
same_states (x ∷ xs) (y ∷ ys) size to back =
    ap₂ (λ a b. a ∷ b) (same_if x y (to 0) (back 0))
    (same_states xs ys (omega arith) (λ s. to (suc s)) (λ s. back (suc s)))
