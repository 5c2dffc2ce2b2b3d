-- Worked examples: the values of gates, what they read, and names in a row.
use Rattle.std.proofs.Common.{◌≡◌, ℕ, Bool, true, false, [], ◌∷◌, refl, codes}
use Rattle.si_base.specs.Netlist.{Gate, SumGate, Gc, Cell, Sum, value_of}
use Rattle.si_netlist.specs.Loops.Pieces.{pieces}
use Rattle.si_netlist.specs.Reads.{gate_reads}

-- the sum of one literal
abbrev lone : ℕ → Bool → Sum
lone sig plain = (record { sig = sig; plain = plain } ∷ []) ∷ []

-- ---- the sum of signal 0

abbrev buffer : Gate
buffer = SumGate (lone 0 true)

buffer_one : value_of buffer 1 1 ≡ true
buffer_one = refl

buffer_zero : value_of buffer 1 2 ≡ false
buffer_zero = refl

-- ---- signal 1 rises where signal 0 is 1, and falls where signal 2 is 1

abbrev latch : Gate
latch = Gc (lone 0 true) (lone 2 true)

latch_rises : value_of latch 1 1 ≡ true
latch_rises = refl

latch_keeps_one : value_of latch 1 2 ≡ true
latch_keeps_one = refl

latch_keeps_zero : value_of latch 1 0 ≡ false
latch_keeps_zero = refl

latch_falls : value_of latch 1 6 ≡ false
latch_falls = refl

set_before_reset : value_of latch 1 7 ≡ true
set_before_reset = refl

reads_set : gate_reads latch 0 ≡ true
reads_set = refl

reads_reset : gate_reads latch 2 ≡ true
reads_reset = refl

reads_no_own_signal : gate_reads latch 1 ≡ false
reads_no_own_signal = refl

-- ---- a cell with the complement of signal 0

abbrev inverter : Gate
inverter = Cell (codes "INV") [] (lone 0 false)

inverter_one : value_of inverter 1 2 ≡ true
inverter_one = refl

inverter_zero : value_of inverter 1 1 ≡ false
inverter_zero = refl

reads_input : gate_reads inverter 0 ≡ true
reads_input = refl

-- ---- names in a row

three_names : pieces (codes "s1s10@01") (2 ∷ 2 ∷ 8 ∷ []) ≡ codes "s1" ∷ [] ∷ codes "s10@01" ∷ []
three_names = refl
