-- What is known of the fits of signals before an instance is looked for.
use Rattle.std.specs.Prelude.{◌≡◌, ℕ, true, false}
use Rattle.si_base.specs.Bits.{bit}
use Rattle.si_base.specs.Codes.{CodedGraph}
use Rattle.si_base.specs.Graph.{IsNonInput}
use Rattle.si_cell.specs.Library.{Library, Instance}
use Rattle.si_match.specs.Fit.{IsOver, Fits}
use Rattle.si_match.specs.Triggers.{IsUnread}
use Rattle.si_match.specs.declared.known.KnownFits.{KnownFits}

-- some instance fits z
abbrev pub IsFitted : CodedGraph → Library → ℕ → Type 0
IsFitted c library z = (i : Instance) × IsOver c library i × Fits c library z i

-- each instance that fits z reads signal y
abbrev pub FitsByReading : CodedGraph → Library → ℕ → ℕ → Type 0
FitsByReading c library y z =
    (i : Instance) → IsOver c library i → Fits c library z i → IsUnread y i.literals → ⊥

-- each signal that the circuit drives is unknown, or it fits as the set tells, or each instance
-- that fits it reads that signal
pub record AreKnown (c : CodedGraph) (library : Library) (known : KnownFits) : Type 0 where
  pub fitted : (z : ℕ) → IsNonInput c.graph.signals z → bit known.unknown z ≡ false
      → bit known.fitted z ≡ true → IsFitted c library z
  pub others : (z : ℕ) → IsNonInput c.graph.signals z → bit known.unknown z ≡ false
      → bit known.fitted z ≡ false → FitsByReading c library known.read z
