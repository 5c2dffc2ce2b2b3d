-- Names in brackets, and the names of a list, one after another.
use Rattle.std.proofs.Common.{◌≡◌, ℕ, ◌==◌, false, List, [], ◌∷◌, ◌++◌}
use Rattle.std.proofs.Common.{Some, None, option_map, refl, ap}
use Rattle.si_equations.specs.Names.{before_bracket}

-- ---- brackets
pub before_closed : (bs : List ℕ) → before_bracket (bs ++ 93 ∷ []) ≡ Some bs
before_closed [] = refl
before_closed (b ∷ []) = refl
before_closed (b ∷ c ∷ cs) = ap (option_map (λ (bs : List ℕ). b ∷ bs)) (before_closed (c ∷ cs))

pub before_open : (bs : List ℕ) (d : ℕ) → (d == 93) ≡ false → before_bracket (bs ++ d ∷ []) ≡ None
before_open [] d other = rw other refl
before_open (b ∷ []) d other = rw other refl
before_open (b ∷ c ∷ cs) d other = ap (option_map (λ (bs : List ℕ). b ∷ bs)) (before_open (c ∷ cs) d other)
