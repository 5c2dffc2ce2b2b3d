-- What the gates of a netlist read, kept as a list of codes.
use Rattle.std.specs.Prelude.{◌≡◌, ℕ, ◌≤◌, List, length, slice_index}
use Rattle.si_base.specs.Graph.{IsNonInput}
use Rattle.si_base.specs.Netlist.{Netlist}
use Rattle.si_netlist.specs.Reads.{MarksExactly, signal_reads}

-- for each signal with a gate the signals that its gate reads, and none for any other
pub record AreReads (n : Netlist) (reads : List ℕ) : Type 0 where
  pub room : length n.signals ≤ length reads
  pub gates : (z : ℕ) → IsNonInput n.signals z
      → MarksExactly (signal_reads n z) (slice_index reads z)
  pub others : (z : ℕ) → (IsNonInput n.signals z → ⊥) → slice_index reads z ≡ 0
