-- (field) The support of a signal.
use Rattle.std.specs.Prelude.{ℕ, ◌+◌, ◌==◌, ◌||◌, not, Bool, zero, suc, length, if◌then◌else◌}
use Rattle.std.specs.Prelude.{bit_and}
use Rattle.std.specs.List.{list_all}
use mathlib.Core.Bool.{beq}
use Rattle.si_base.specs.Bits.{flip, ones}
use Rattle.si_base.specs.Codes.{CodedGraph, code, next_value}
use Rattle.si_match.specs.Fit.{states_of}

-- a set of signals is a code in which these have the value 1

-- the codes have the same values of these signals
abbrev pub agree : ℕ → ℕ → ℕ → Bool
agree signals code other = bit_and code signals == bit_and other signals

-- states with the same values of these signals have the same next value of z
abbrev pub determines : CodedGraph → ℕ → ℕ → Bool
determines c z signals =
    list_all (λ s. list_all (λ t.
    not (agree signals s.1 t.1) || beq (next_value c s.0 z) (next_value c t.0 z))
    (states_of c)) (states_of c)

-- of the signals from the i-th on, so many, each is dropped without which the others still
-- determine the next value of z
abbrev pub support_by_drops : CodedGraph → ℕ → ℕ → ℕ → ℕ → ℕ
support_by_drops c z zero i signals = signals
support_by_drops c z (suc count) i signals =
    support_by_drops c z count (i + 1)
    (if determines c z (flip signals i) then flip signals i else signals)

-- what is left of all signals
unfoldable pub support_of : CodedGraph → ℕ → ℕ
support_of c z = support_by_drops c z (length c.graph.signals) 0 (ones (length c.graph.signals))
