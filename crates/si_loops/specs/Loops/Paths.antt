-- Where paths along arcs lead, a word for each signal.
use Rattle.std.specs.Prelude.{◌≡◌, ℕ, ◌<◌, ◌↔◌, true, List, length, get_or, bit_or}
use Rattle.std.specs.Prelude.{if◌then◌else◌}
use Rattle.si_base.specs.Bits.{bit}
use Rattle.si_base.specs.Limits.{max_signals}
use Rattle.si_loops.specs.declared.arcs.Arc.{Arc}
use Rattle.si_loops.specs.Arcs.{Leads}

-- both ends of the arc are signals for which a code has a bit
pub record IsNarrow (a : Arc) : Type 0 where
  pub from : a.from < max_signals
  pub to : a.to < max_signals

-- the word of signal y has a 1 for each signal to which a path leads from y
pub record AreEnds (arcs : List Arc) (words : List ℕ) : Type 0 where
  pub size : length words ≡ max_signals
  pub ends : (y z : ℕ) → y < max_signals → z < max_signals
      → (bit (get_or words y 0) z ≡ true) ↔ Leads arcs y z

-- the word of a signal once an arc leads from `from` to a signal with the word `beyond`
abbrev pub led_on : ℕ → ℕ → ℕ → ℕ
led_on from beyond word = if bit word from then bit_or word beyond else word
