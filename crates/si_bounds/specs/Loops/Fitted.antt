-- Signals that some cell fits.
use Rattle.std.specs.Prelude.{◌≡◌, ℕ, is_some}
use Rattle.si_base.specs.Bits.{bit}
use Rattle.si_base.specs.Codes.{CodedGraph}
use Rattle.si_base.specs.Graph.{IsNonInput}
use Rattle.si_cell.specs.Library.{Library}
use Rattle.si_match.specs.Fit.{first_fit}

-- the set has those signals that the circuit drives and that some cell fits, and others at will
abbrev pub AreFitted : CodedGraph → Library → ℕ → Type 0
AreFitted c library fitted = (z : ℕ) → IsNonInput c.graph.signals z
    → bit fitted z ≡ is_some (first_fit c library z)
