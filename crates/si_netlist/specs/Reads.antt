-- (field) What gates read: the signals with a literal in one of their sums.
use Rattle.std.specs.Prelude.{◌≡◌, ℕ, ◌==◌, ◌||◌, Bool, false, slice_get, Option, Some, None}
use Rattle.std.specs.List.{list_any}
use Rattle.si_base.specs.Bits.{bit}
use Rattle.si_base.specs.Netlist.{Sum, Gate, SumGate, Gc, Cell, Netlist, gate_place}

-- a cube of the sum has a literal of signal x
abbrev pub sum_reads : Sum → ℕ → Bool
sum_reads sum x = list_any (λ cube. list_any (λ l. l.sig == x) cube) sum

-- a sum of the gate reads x; a generalised C-element keeps its own signal without a literal of it
abbrev pub gate_reads : Gate → ℕ → Bool
gate_reads (SumGate sum) x = sum_reads sum x
gate_reads (Gc set reset) x = sum_reads set x || sum_reads reset x
gate_reads (Cell name literals sum) x = sum_reads sum x

abbrev pub reads_if_there : Option Gate → ℕ → Bool
reads_if_there None x = false
reads_if_there (Some gate) x = gate_reads gate x

-- the gate of signal z reads x
abbrev pub signal_reads : Netlist → ℕ → ℕ → Bool
signal_reads n z x = reads_if_there (slice_get n.gates (gate_place n.signals z)) x

-- the code has the value 1 for exactly these signals
abbrev pub MarksExactly : (ℕ → Bool) → ℕ → Type 0
MarksExactly signals code = (x : ℕ) → bit code x ≡ signals x
