-- (command) What `loops` means over the texts of a netlist and of a library: where loops are cut,
-- as commands for a timing tool.
use Rattle.std.specs.Prelude.{◌≡◌, ℕ, List, None, Ok, Err}
use Rattle.si_base.specs.Netlist.{Netlist}
use Rattle.si_base.specs.NetlistText.{name_of}
use Rattle.si_genlib.specs.Ports.{PortedLibrary}
use Rattle.si_netlist_reader.specs.NetlistFault.{netlist_fault}
use Rattle.si_netlist_reader.specs.NetlistValue.{netlist_of}
use Rattle.si_refusals.specs.Refusal.{TextRefusal, Unplaced}
use Rattle.si_refusals.specs.Stages.{Stage, ◌>>=◌}
use Rattle.si_readings.specs.Readings.{fault_in, netlist_in}
use Rattle.si_readings.specs.declared.library_format.LibraryFormat.{LibraryFormat}
use Rattle.si_timing.specs.Meaning.{LeavesNoLoop}
use Rattle.si_timing.specs.Refusals.{IsOfCells, Shows}
use Rattle.si_timing.specs.TimingText.{IsTimingText}
use Rattle.si_timing.specs.declared.refusal.Untimed.{Untimed}
use Rattle.si_timing.specs.declared.refusal.Untimed.TheVariants as reason
use Rattle.si_exports.specs.Ported.{ported_from, ported_in}

-- the refusal tells the reason, by the name of the signal
abbrev pub TellsUntimed : Netlist → Untimed → TextRefusal → Type 0
TellsUntimed n reason.NoMemory refusal = ⊥
TellsUntimed n (reason.NoInstance z) refusal = refusal ≡ Unplaced (name_of n.signals z)

-- where the loops of a netlist over a library are cut, or why it has no such text
abbrev pub timed : PortedLibrary → Netlist → Stage TextRefusal (List ℕ)
timed library n (Ok text) = IsOfCells library.library n × IsTimingText library n text
timed library n (Err refusal) =
    (why : Untimed) × Shows library.library n why × TellsUntimed n why refusal

-- each file with its text, and the library read in either format
abbrev pub timing : LibraryFormat → (netlist netlist_text library library_text : List ℕ)
    → Stage TextRefusal (List ℕ)
timing format netlist netlist_text library library_text = do
  circuit ← netlist_in netlist netlist_text
  cells ← ported_in format library library_text
  timed cells circuit

-- the texts spell a netlist of cells and their library, and the output names the arcs that are cut:
-- without these no loop is left in the instances
pub record IsItsTiming (format : LibraryFormat) (netlist_text library_text output : List ℕ)
    : Type 0 where
  pub sound : netlist_fault netlist_text ≡ None
  pub library_sound : fault_in format library_text ≡ None
  pub of_cells : IsOfCells (ported_from format library_text).library (netlist_of netlist_text)
  pub output_is : IsTimingText (ported_from format library_text) (netlist_of netlist_text) output
  pub means : LeavesNoLoop (ported_from format library_text) (netlist_of netlist_text) output
