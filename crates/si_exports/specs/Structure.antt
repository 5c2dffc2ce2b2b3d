-- (command) What `verilog` means over the texts of a netlist and of a library: the netlist as
-- modules, with an instance of a cell for each gate; with a reset input, where one is asked for.
use Rattle.std.specs.Prelude.{◌≡◌, ℕ, List, [], Option, Some, None, Ok, Err, slice_index_or}
use Rattle.si_base.specs.Netlist.{Netlist}
use Rattle.si_base.specs.NetlistText.{name_of}
use Rattle.si_cell.specs.Library.{cell_at}
use Rattle.si_genlib.specs.Ports.{PortedLibrary}
use Rattle.si_netlist_reader.specs.NetlistFault.{netlist_fault}
use Rattle.si_netlist_reader.specs.NetlistValue.{netlist_of}
use Rattle.si_refusals.specs.Refusal.{TextRefusal, Unplaced, Complemented, SameName}
use Rattle.si_refusals.specs.Stages.{Stage, ◌>>=◌}
use Rattle.si_readings.specs.Readings.{fault_in, netlist_in}
use Rattle.si_readings.specs.declared.library_format.LibraryFormat.{LibraryFormat}
use Rattle.si_resettable.specs.Forcing.{Forcing, IsForcing}
use Rattle.si_resettable.specs.Refusals.{Shows as ShowsNoRoom}
use Rattle.si_resettable.specs.declared.refusal.Unresettable.{Unresettable}
use Rattle.si_structure.specs.Meaning.{MeansStructure}
use Rattle.si_structure.specs.Refusals.{IsStructured, Shows}
use Rattle.si_structure.specs.StructureText.{structure_text}
use Rattle.si_structure.specs.declared.complements.Complements.{Complements}
use Rattle.si_structure.specs.declared.refusal.Unstructured.{Unstructured}
use Rattle.si_structure.specs.declared.refusal.Unstructured.TheVariants as reason
use Rattle.si_timing.specs.Instances.{ports_at}
use Rattle.si_exports.specs.Ported.{ported_from, ported_in}
use Rattle.si_exports.specs.Resettable.{TellsNoRoom}

-- the name of a pin of the cell at a place of the library
abbrev pub pin_name : PortedLibrary → (cell pin : ℕ) → List ℕ
pin_name library cell pin = slice_index_or (ports_at library cell).pins pin []

-- the refusal tells the reason, by the names of the signal, the cell and the pin
abbrev pub TellsReason : PortedLibrary → Netlist → Unstructured → TextRefusal → Type 0
TellsReason library n reason.NoMemory refusal = ⊥
TellsReason library n (reason.NoInstance z) refusal = refusal ≡ Unplaced (name_of n.signals z)
TellsReason library n (reason.Complemented z cell pin) refusal = refusal
    ≡ Complemented (name_of n.signals z) (cell_at library.library cell).name
    (pin_name library cell pin)
TellsReason library n reason.ModelIsCell refusal = refusal ≡ SameName n.model

-- the reset input of the name that is asked for, or why the netlist has no room for it; none where
-- none is asked for
abbrev pub reset_input : Option (List ℕ) → Netlist → Stage TextRefusal (Option Forcing)
reset_input None n (Ok None) = Unit {0}
reset_input (Some name) n (Ok (Some f)) = (f.name ≡ name) × IsForcing n f
reset_input (Some name) n (Err refusal) =
    (why : Unresettable) × ShowsNoRoom n name why × TellsNoRoom name why refusal
reset_input _ n _ = ⊥

-- the modules of a netlist over a library, or why it has none
abbrev pub structured : Complements → PortedLibrary → Option Forcing → Netlist
    → Stage TextRefusal (List ℕ)
structured complements library reset n (Ok text) =
    IsStructured library complements n × (text ≡ structure_text library n reset)
structured complements library reset n (Err refusal) =
    (why : Unstructured) × Shows library complements n why × TellsReason library n why refusal

-- each file with its text, the library read in either format, and the name of a reset input, if one
-- is asked for
abbrev pub structure : LibraryFormat → Complements → Option (List ℕ)
    → (netlist netlist_text library library_text : List ℕ) → Stage TextRefusal (List ℕ)
structure format complements name netlist netlist_text library library_text = do
  circuit ← netlist_in netlist netlist_text
  cells ← ported_in format library library_text
  reset ← reset_input name circuit
  structured complements cells reset circuit

-- the texts spell a netlist and a library, and the output is the netlist as modules, which mean it
-- over the library, with the reset input of that name, if one is asked for
pub record IsItsStructure (format : LibraryFormat) (complements : Complements)
    (name : Option (List ℕ)) (netlist_text library_text output : List ℕ) : Type 0 where
  pub sound : netlist_fault netlist_text ≡ None
  pub library_sound : fault_in format library_text ≡ None
  pub reset : Option Forcing
  pub is_reset : reset_input name (netlist_of netlist_text) (Ok reset)
  pub structured : IsStructured (ported_from format library_text) complements
      (netlist_of netlist_text)
  pub output_is : output
      ≡ structure_text (ported_from format library_text) (netlist_of netlist_text) reset
  pub means : MeansStructure output (ported_from format library_text) (netlist_of netlist_text)
      reset
