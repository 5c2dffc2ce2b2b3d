-- The codes of the states at which a test holds, gathered state by state.
use Rattle.std.proofs.Common.{ℕ, Bool, List, drop, map, filter}
use Rattle.std.specs.List.{enumerate_from}

-- ---- codes of states
-- the codes of the states from the i-th on at which the test holds
abbrev pub codes_from : (ℕ → Bool) → List ℕ → ℕ → List ℕ
codes_from test xs i = map (λ (p : ℕ × ℕ). p.1) (filter (λ (p : ℕ × ℕ). test p.0) (enumerate_from i (drop i xs)))
