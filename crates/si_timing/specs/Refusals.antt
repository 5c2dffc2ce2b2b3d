-- (field) Netlists whose gates are instances of cells, and why others have no text for timing.
use Rattle.std.specs.Prelude.{ℕ, ◌<◌}
use Rattle.si_base.specs.Netlist.{Gate, Netlist}
use Rattle.si_cell.specs.Library.{Instance, Library}
use Rattle.si_structure.specs.Refusals.{HasGate, IsInstanceGate}
use Rattle.si_timing.specs.declared.refusal.Untimed.{Untimed}
use Rattle.si_timing.specs.declared.refusal.Untimed.TheVariants.{NoMemory, NoInstance}

-- the gate of signal z is an instance of a cell of the library, by any literals
abbrev pub IsCellGate : Library → ℕ → Gate → Type 0
IsCellGate library z gate = (i : Instance) × IsInstanceGate library z gate i

-- each gate is
abbrev pub IsOfCells : Library → Netlist → Type 0
IsOfCells library n = (z : ℕ) (gate : Gate) → HasGate n z gate → IsCellGate library z gate

-- the gate of signal z isn't, and each before it is
pub record IsFirstOther (library : Library) (n : Netlist) (z : ℕ) : Type 0 where
  pub gate : Gate
  pub has : HasGate n z gate
  pub none : IsCellGate library z gate → ⊥
  pub others : (y : ℕ) (g : Gate) → y < z → HasGate n y g → IsCellGate library y g

-- what a refusal shows
abbrev pub Shows : Library → Netlist → Untimed → Type 0
Shows library n NoMemory = Unit {0}
Shows library n (NoInstance sig) = IsFirstOther library n sig
