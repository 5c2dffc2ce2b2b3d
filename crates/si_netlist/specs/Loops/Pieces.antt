-- Pieces one after another in one run of bytes.
use Rattle.std.specs.Prelude.{◌≡◌, ℕ, ◌≤◌, List, ◌∷◌, length, map, All, slice_index}
use Rattle.std.specs.List.{zip, slice_range}

-- where each piece begins and ends: it begins where the one before it ends, and the first at 0
abbrev pub spans : List ℕ → List (ℕ × ℕ)
spans ends = zip (0 ∷ ends) ends

-- the bytes cut at the ends
abbrev pub pieces : List ℕ → List ℕ → List (List ℕ)
pieces bytes ends = map (λ p. slice_range bytes p.0 p.1) (spans ends)

-- the ends ascend, and the last is the number of bytes, which is 0 where there is no end
pub record AreEnds (bytes : List ℕ) (ends : List ℕ) : Type 0 where
  pub ascending : All (λ p. p.0 ≤ p.1) (spans ends)
  pub last : slice_index (0 ∷ ends) (length ends) ≡ length bytes
