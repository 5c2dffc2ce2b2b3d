-- (field) Netlists of cells and wires: each pin of each gate reads a signal as it is.
use Rattle.std.specs.Prelude.{◌≡◌, ℕ, ◌<◌, true, List, [], ◌∷◌, ◌++◌, length, map, All}
use Rattle.si_base.specs.Bits.{bit}
use Rattle.si_base.specs.Netlist.{Sum, Gate, Cell, Netlist, sum_value}
use Rattle.si_base.specs.declared.ids.Literal.{Literal}
use Rattle.si_cell.specs.Library.{Library, cell_at, code_of}
use Rattle.si_circuit.specs.Covered.{HasGates}

-- the signal as it is
abbrev pub as_it_is : ℕ → Literal
as_it_is y = record { sig = y; plain = true }

-- a gate of z that is a cell of the library, each pin of which reads one of so many signals as it
-- is: for all values of the signals it has the value of the cell's sum where each pin has the value
-- of its signal, and the own output that of z
pub record IsWired (library : Library) (count z : ℕ) (gate : Gate) : Type 0 where
  pub cell : ℕ
  pub in_library : cell < length library.cells
  pub reads : List ℕ
  pub pins : length reads ≡ length (cell_at library cell).pins
  pub signals : All (λ y. y < count) reads
  pub sum : Sum
  pub gate_is : gate ≡ Cell (cell_at library cell).name (map as_it_is reads) sum
  pub value : (values : ℕ) → sum_value values sum
      ≡ sum_value (code_of (map (bit values) reads ++ bit values z ∷ [])) (cell_at library cell).sum

-- so is each gate of the netlist
abbrev pub IsOfCellsAndWires : Library → Netlist → Type 0
IsOfCellsAndWires library n = HasGates (IsWired library (length n.signals)) n
