-- (field) Netlists that have a structural text, and why others have none.
use Rattle.std.specs.Prelude.{◌≡◌, ◌⊎◌, ℕ, ◌<◌, ◌&&◌, Bool, false, List, All, IsTrue, bytes_eq}
use Rattle.std.specs.Prelude.{Some, slice_get}
use Rattle.std.specs.Bool.{IsFalse}
use Rattle.std.specs.List.{list_any}
use Rattle.si_base.specs.declared.ids.Literal.{Literal}
use Rattle.si_base.specs.Graph.{IsNonInput}
use Rattle.si_base.specs.Netlist.{Gate, Cell, Netlist, gate_place}
use Rattle.si_cell.specs.Expanded.{expanded}
use Rattle.si_cell.specs.Library.{Cell as LibraryCell, Library, Instance, IsInstance, cell_at}
use Rattle.si_genlib.specs.Ports.{PortedLibrary}
use Rattle.si_structure.specs.StructureText.{is_inverter, is_used, ported_cells}
use Rattle.si_structure.specs.declared.complements.Complements.{Complements}
use Rattle.si_structure.specs.declared.complements.Complements.TheVariants.{Refused, Inverted}
use Rattle.si_structure.specs.declared.refusal.Unstructured.{Unstructured}
use Rattle.si_structure.specs.declared.refusal.Unstructured.TheVariants.{NoMemory, NoInstance}
use Rattle.si_structure.specs.declared.refusal.Unstructured.TheVariants.{Complemented, ModelIsCell}

-- ---- one gate

-- what an instance is as the gate of signal z: the name of its cell, its literals, and the cell's
-- sum over them and z
abbrev pub instance_gate : Library → ℕ → Instance → Gate
instance_gate library z i = Cell (cell_at library i.cell).name i.literals (expanded library i z)

-- the gate of signal z is that instance
pub record IsInstanceGate (library : Library) (z : ℕ) (gate : Gate) (i : Instance) : Type 0 where
  pub instance : IsInstance library i
  pub same : gate ≡ instance_gate library z i

-- complemented literals get inverters: that is asked for, and one of the cells is an inverter
abbrev pub inverts : Complements → List LibraryCell → Bool
inverts Refused cells = false
inverts Inverted cells = list_any is_inverter cells

-- it is one by plain literals alone, or complemented ones get inverters
pub record IsPlacedGate (library : Library) (complements : Complements) (z : ℕ) (gate : Gate)
    : Type 0 where
  pub instance : Instance
  pub is : IsInstanceGate library z gate instance
  pub plain : IsTrue (inverts complements library.cells)
      ⊎ All (λ l. IsTrue l.plain) instance.literals

-- the first complemented literal is that at the pin
pub record IsFirstComplemented (literals : List Literal) (pin : ℕ) : Type 0 where
  pub literal : Literal
  pub there : slice_get literals pin ≡ Some literal
  pub complemented : IsFalse literal.plain
  pub others : (k : ℕ) (l : Literal) → k < pin → slice_get literals k ≡ Some l → IsTrue l.plain

-- an instance of that cell, of which the literal at that pin is the first complemented one, and
-- gets no inverter
pub record IsComplemented (library : Library) (complements : Complements) (z : ℕ) (gate : Gate)
    (cell pin : ℕ) : Type 0 where
  pub instance : Instance
  pub is : IsInstanceGate library z gate instance
  pub cell_is : instance.cell ≡ cell
  pub pin_is : IsFirstComplemented instance.literals pin
  pub kept : IsFalse (inverts complements library.cells)

-- what a refusal shows of the gate of signal z
abbrev pub ShowsOfGate : Library → Complements → ℕ → Gate → Unstructured → Type 0
ShowsOfGate library complements z gate NoMemory = Unit {0}
ShowsOfGate library complements z gate (NoInstance sig) =
    (sig ≡ z) × ((i : Instance) → IsInstanceGate library z gate i → ⊥)
ShowsOfGate library complements z gate (Complemented sig cell pin) =
    (sig ≡ z) × IsComplemented library complements z gate cell pin
ShowsOfGate library complements z gate ModelIsCell = ⊥

-- ---- the netlist

-- that is the gate of signal z
pub record HasGate (n : Netlist) (z : ℕ) (gate : Gate) : Type 0 where
  pub driven : IsNonInput n.signals z
  pub there : slice_get n.gates (gate_place n.signals z) ≡ Some gate

-- each gate is an instance, by literals that are plain or get inverters
abbrev pub AllPlaced : Library → Complements → Netlist → Type 0
AllPlaced library complements n =
    (z : ℕ) (gate : Gate) → HasGate n z gate → IsPlacedGate library complements z gate

-- a cell that is used has the name of the model: Verilog has one room for names of modules
abbrev pub model_is_cell : PortedLibrary → Netlist → Bool
model_is_cell ported n =
    list_any (λ c. is_used (ported_cells ported) n c && bytes_eq c.name n.model)
    ported.library.cells

-- the netlist has a structural text
pub record IsStructured (ported : PortedLibrary) (complements : Complements) (n : Netlist)
    : Type 0 where
  pub placed : AllPlaced ported.library complements n
  pub model : IsFalse (model_is_cell ported n)

-- the refusal is that of the gate of signal z, and no gate before it has one
pub record IsFirstRefused (library : Library) (complements : Complements) (n : Netlist) (z : ℕ)
    (why : Unstructured) : Type 0 where
  pub gate : Gate
  pub has : HasGate n z gate
  pub shows : ShowsOfGate library complements z gate why
  pub others : (y : ℕ) (g : Gate) → y < z → HasGate n y g → IsPlacedGate library complements y g

-- what the refusal of a gate shows of the netlist
abbrev pub ShowsGates : Library → Complements → Netlist → Unstructured → Type 0
ShowsGates library complements n NoMemory = Unit {0}
ShowsGates library complements n (NoInstance sig) =
    IsFirstRefused library complements n sig (NoInstance sig)
ShowsGates library complements n (Complemented sig cell pin) =
    IsFirstRefused library complements n sig (Complemented sig cell pin)
ShowsGates library complements n ModelIsCell = ⊥

-- what a refusal shows; that the model is a cell comes after all gates
abbrev pub Shows : PortedLibrary → Complements → Netlist → Unstructured → Type 0
Shows ported complements n NoMemory = Unit {0}
Shows ported complements n (NoInstance sig) =
    ShowsGates ported.library complements n (NoInstance sig)
Shows ported complements n (Complemented sig cell pin) =
    ShowsGates ported.library complements n (Complemented sig cell pin)
Shows ported complements n ModelIsCell =
    AllPlaced ported.library complements n × IsTrue (model_is_cell ported n)
