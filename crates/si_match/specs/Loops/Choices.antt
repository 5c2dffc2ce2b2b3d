-- The signals that an instance reads, chosen one after the other in signal order.
use Rattle.std.specs.Prelude.{◌≡◌, ℕ, ◌<◌, ◌≤◌, true, List, [], ◌∷◌, All, Contains}
use Rattle.si_base.specs.Bits.{bit}
use Rattle.si_base.specs.Codes.{CodedGraph}
use Rattle.si_base.specs.declared.ids.Literal.{Literal}
use Rattle.si_cell.specs.Library.{Library, Instance}
use Rattle.si_match.specs.Fit.{IsOver, Fits}
use Rattle.si_match.specs.Loops.Known.{FitsByReading}

-- each literal is of one of the signals
abbrev pub AreAmong : List ℕ → List Literal → Type 0
AreAmong signals literals = All (λ l. Contains signals l.sig) literals

-- no instance that fits z reads these signals and z alone
abbrev pub NoneFitsOver : CodedGraph → Library → ℕ → List ℕ → Type 0
NoneFitsOver c library z chosen =
    (i : Instance) → IsOver c library i → Fits c library z i → AreAmong (z ∷ chosen) i.literals → ⊥

-- signals below the count, none before the one before it, the first of them not before `first`
abbrev pub Ascends : ℕ → ℕ → List ℕ → Type 0
Ascends count first [] = Unit {0}
Ascends count first (y ∷ ys) = (first ≤ y) × (y < count) × Ascends count y ys

-- the set has only signals that each fitting instance reads, none of them chosen
abbrev pub AreOwed : CodedGraph → Library → ℕ → List ℕ → ℕ → Type 0
AreOwed c library z chosen missing = (y : ℕ) → bit missing y ≡ true
    → FitsByReading c library y z × (Contains (z ∷ chosen) y → ⊥)
