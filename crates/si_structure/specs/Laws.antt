-- (law) What a structural text means, and that a netlist has one or one reason to have none.
use Rattle.std.specs.Prelude.{◌≡◌, ◌≢◌, ◌⊎◌, ℕ, Bool, List, Option, Some, All, Contains, IsTrue}
use Rattle.std.specs.Prelude.{slice_get, if◌then◌else◌}
use Rattle.si_base.specs.Netlist.{Netlist, gate_place, gate_value}
use Rattle.si_base.specs.NetlistText.{name_of}
use Rattle.si_base.specs.WellFormed.{IsNetlist}
use Rattle.si_cell.specs.Library.{IsLibrary}
use Rattle.si_genlib.specs.Ports.{ArePorts, PortedLibrary}
use Rattle.si_settled.specs.Settling.{is_among}
use Rattle.si_verilog.specs.Grammar.{Assign, tree_value}
use Rattle.si_verilog.specs.Symbols.{Symbol, symbols_of}
use Rattle.si_resettable.specs.Forcing.{Forcing, IsForcing, IsResetOf}
use Rattle.si_resettable.specs.Meaning.{value_in_reset}
use Rattle.si_structure.specs.Parts.{Part, SpellParts}
use Rattle.si_structure.specs.Meaning.{AreOfNetlist, HaveValues, IsController, IsSettled}
use Rattle.si_structure.specs.Meaning.{MeansStructure}
use Rattle.si_structure.specs.Refusals.{IsStructured, Shows}
use Rattle.si_structure.specs.StructureText.{GateInstances, in_order, structure_text}
use Rattle.si_structure.specs.declared.complements.Complements.{Complements}
use Rattle.si_structure.specs.declared.refusal.Unstructured.{Unstructured}
use Rattle.si_structure.specs.declared.refusal.Unstructured.TheVariants.{NoMemory}

-- a library, and names of its ports
pub record IsPorted (ported : PortedLibrary) : Type 0 where
  pub library : IsLibrary ported.library
  pub ports : ArePorts ported.library.cells ported.ports

-- the text of a netlist that has one is that of modules, which are of the netlist over the library
abbrev pub TextsMean : Type 0
TextsMean = (ported : PortedLibrary) (complements : Complements) (n : Netlist)
    (reset : Option Forcing) → IsPorted ported → IsNetlist n → IsStructured ported complements n
    → IsResetOf n reset → MeansStructure (structure_text ported n reset) ported n reset

-- and any modules that it is the text of are
abbrev pub TextsMeanNothingElse : Type 0
TextsMeanNothingElse = (ported : PortedLibrary) (complements : Complements) (n : Netlist)
    (reset : Option Forcing) (parts : List Part) → IsPorted ported → IsNetlist n
    → IsStructured ported complements n → IsResetOf n reset
    → SpellParts (symbols_of (structure_text ported n reset)) parts
    → AreOfNetlist ported n reset parts

-- in a controller with a reset input, where the instances of the gate of a forced signal are
-- settled, the assign of the signal has the value of the gate while the input is 0, and that of the
-- gate in reset while it is 1
abbrev pub ForcedAreDriven : Type 0
ForcedAreDriven = (ported : PortedLibrary) (n : Netlist) (f : Forcing) (parts : List Part)
    (p : Part) (c : IsController ported n (Some f) parts p) (z values : ℕ) (nets : List ℕ → Bool)
    (placed : GateInstances) → IsForcing n f → IsTrue (is_among f.forced z)
    → slice_get c.instances (gate_place n.signals z) ≡ Some placed
    → HaveValues n.signals values nets → All (IsSettled parts nets) (in_order placed)
    → (a : Assign) × Contains p.body.assigns a × (a.name ≡ name_of n.signals z)
    × (tree_value nets a.tree
    ≡ (if nets f.name then value_in_reset n f.forced z values else gate_value n z values))

-- symbols spell one list of modules at most
abbrev pub TextsHaveOneMeaning : Type 0
TextsHaveOneMeaning = (symbols : List Symbol) (ps qs : List Part) → SpellParts symbols ps
    → SpellParts symbols qs → ps ≡ qs

-- a netlist is refused for one reason at most, beside want of memory
abbrev pub RefusedForOneReason : Type 0
RefusedForOneReason = (ported : PortedLibrary) (complements : Complements) (n : Netlist)
    (e f : Unstructured) → IsLibrary ported.library → e ≢ NoMemory → f ≢ NoMemory
    → Shows ported complements n e → Shows ported complements n f → e ≡ f

-- and one that has a text for none
abbrev pub NotBoth : Type 0
NotBoth = (ported : PortedLibrary) (complements : Complements) (n : Netlist) (e : Unstructured)
    → IsStructured ported complements n → Shows ported complements n e → e ≡ NoMemory

-- each netlist has a text or a reason to have none
abbrev pub HaveOutcome : Type 0
HaveOutcome = (ported : PortedLibrary) (complements : Complements) (n : Netlist)
    → IsLibrary ported.library → IsNetlist n → IsStructured ported complements n
    ⊎ ((e : Unstructured) × (e ≢ NoMemory) × Shows ported complements n e)
