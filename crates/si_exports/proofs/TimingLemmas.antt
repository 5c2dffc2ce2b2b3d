-- The texts of a netlist and a library come to one answer: commands for a timing tool, or a refusal.
use Rattle.std.proofs.Common.{◌≡◌, ◌≢◌, ℕ, List, None, Ok, Err, refl, sym, ap, subst, ◌∙◌, inl, inr}
use Rattle.si_base.specs.Netlist.{Netlist}
use Rattle.si_base.specs.NetlistText.{name_of}
use Rattle.si_base.specs.WellFormed.{IsNetlist}
use Rattle.si_cell.specs.Library.{IsLibrary}
use Rattle.si_genlib.specs.Ports.{PortedLibrary}
use Rattle.si_netlist_reader.specs.NetlistFault.{netlist_fault}
use Rattle.si_netlist_reader.specs.NetlistValue.{netlist_of}
use Rattle.si_netlist_reader.proofs.ReadLaw.{read_is_netlist}
use Rattle.si_readings.specs.Laws.{AtMostOne, HasResult}
use Rattle.si_readings.specs.Readings.{fault_in, netlist_in}
use Rattle.si_readings.specs.declared.library_format.LibraryFormat.{LibraryFormat}
use Rattle.si_readings.proofs.StageLemmas.{passed, spelled_one, spelled_some, then_one, then_some}
use Rattle.si_refusals.specs.Refusal.{TextRefusal, Unplaced}
use Rattle.si_refusals.specs.Stages.{Passes}
use Rattle.si_timing.specs.Refusals.{IsOfCells}
use Rattle.si_timing.specs.TimingText.{IsTimingText}
use Rattle.si_timing.specs.declared.refusal.Untimed.{Untimed}
use Rattle.si_timing.specs.declared.refusal.Untimed.TheVariants as reason
use Rattle.si_timing.proofs.Decisions.{none_of_cells, one_refusal, some_outcome}
use Rattle.si_timing.proofs.Leaving.{leaves_no_loop}
use Rattle.si_timing.proofs.Writing.{one_text, some_text}
use Rattle.si_exports.specs.Ported.{ported_from, ported_in}
use Rattle.si_exports.specs.Timing.{IsItsTiming, TellsUntimed, timed, timing}
use Rattle.si_exports.proofs.PortedLemmas.{cells_are_library, ports_are_named}

-- want of memory is no reason that is told
is_told : (n : Netlist) (why : Untimed) (refusal : TextRefusal) → TellsUntimed n why refusal → why ≢ reason.NoMemory
is_told n why refusal told same = subst (λ (w : Untimed). TellsUntimed n w refusal) same told

-- a reason is told by one refusal
one_tale : (n : Netlist) (why : Untimed) (q r : TextRefusal) → TellsUntimed n why q → TellsUntimed n why r → q ≡ r
one_tale n reason.NoMemory q r one other = absurd one
one_tale n (reason.NoInstance z) q r one other = one ∙ sym other

-- and each but want of memory by some
some_tale : (n : Netlist) (why : Untimed) → why ≢ reason.NoMemory → (refusal : TextRefusal) × TellsUntimed n why refusal
some_tale n reason.NoMemory other = absurd (other refl)
some_tale n (reason.NoInstance z) other = (Unplaced (name_of n.signals z), refl)

-- ---- one netlist over one library

timed_one : (library : PortedLibrary) (n : Netlist) → AtMostOne (timed library n)
timed_one library n (Ok x) (Ok y) one other = ap Ok (one_text library n x y one.1 other.1)
timed_one library n (Ok x) (Err r) one (why, shows, told) =
    absurd (is_told n why r told (none_of_cells library.library n why one.0 shows))
timed_one library n (Err q) (Ok y) (why, shows, told) other =
    absurd (is_told n why q told (none_of_cells library.library n why other.0 shows))
timed_one library n (Err q) (Err r) (why, shows, told) (because, shown, tale) =
    let same : why ≡ because = one_refusal library.library n why because (is_told n why q told)
    (is_told n because r tale) shows shown in
    ap Err (one_tale n because q r (subst (λ (w : Untimed). TellsUntimed n w q) same told) tale)

timed_some : (library : PortedLibrary) (n : Netlist) → IsLibrary library.library → IsNetlist n
    → HasResult (timed library n)
timed_some library n good is = elim (some_outcome library.library n good is) [
  | inl cells ↦ (
      let written = some_text library n in
      (Ok written.0, (cells, written.1)))
  | inr (why, other, shows) ↦ (
      let tale = some_tale n why other in
      (Err tale.0, (why, shows, tale.1)))
]

-- ---- texts

library_sound : (format : LibraryFormat) (file text : List ℕ) (library : PortedLibrary)
    → ported_in format file text (Ok library) → IsLibrary library.library
library_sound format file text library read =
    subst (λ (l : PortedLibrary). IsLibrary l.library) (sym read.1) (cells_are_library format text read.0)

netlist_sound : (file text : List ℕ) (n : Netlist) → netlist_in file text (Ok n) → IsNetlist n
netlist_sound file text n read = subst IsNetlist (sym read.1) (read_is_netlist text read.0)

pub timing_one : (format : LibraryFormat) (n nt l lt : List ℕ) → AtMostOne (timing format n nt l lt)
timing_one format n nt l lt =
    then_one _ _ (spelled_one n (netlist_fault nt) (netlist_of nt)) (λ circuit spelt.
    then_one _ _ (spelled_one l (fault_in format lt) (ported_from format lt)) (λ cells read. timed_one cells circuit))

pub timing_some : (format : LibraryFormat) (n nt l lt : List ℕ) → HasResult (timing format n nt l lt)
timing_some format n nt l lt =
    then_some _ _ (spelled_some n (netlist_fault nt) (netlist_of nt)) (λ circuit spelt.
    then_some _ _ (spelled_some l (fault_in format lt) (ported_from format lt)) (λ cells read.
    timed_some cells circuit (library_sound format l lt cells read) (netlist_sound n nt circuit spelt)))

-- ---- an output leaves no loop in the instances

its_timing : (format : LibraryFormat) (nt lt output : List ℕ) → netlist_fault nt ≡ None → fault_in format lt ≡ None
    → IsOfCells (ported_from format lt).library (netlist_of nt)
    → IsTimingText (ported_from format lt) (netlist_of nt) output → IsItsTiming format nt lt output
its_timing format nt lt output sound good cells written = record {
  sound = sound;
  library_sound = good;
  of_cells = cells;
  output_is = written;
  means = leaves_no_loop (ported_from format lt) (netlist_of nt) output (record {
    cells = cells_are_library format lt good;
    ports = ports_are_named format lt good;
    netlist = read_is_netlist nt sound;
    of_cells = cells;
  }) written;
}

pub output_is_timing : (format : LibraryFormat) (n nt l lt output : List ℕ) → timing format n nt l lt (Ok output)
    → IsItsTiming format nt lt output
output_is_timing format n nt l lt output comes =
    let (circuit, spelt, later) = passed (netlist_in n nt) _ output comes in
    let (cells, read, is) = passed (ported_in format l lt) (λ library. timed library circuit) output later in
    let timed_text = subst (λ (m : Netlist). timed (ported_from format lt) m (Ok output)) spelt.1
    (subst (λ (library : PortedLibrary). timed library circuit (Ok output)) read.1 is) in
    its_timing format nt lt output spelt.0 read.0 timed_text.0 timed_text.1

pub timing_is_output : (format : LibraryFormat) (n nt l lt output : List ℕ) → IsItsTiming format nt lt output
    → timing format n nt l lt (Ok output)
timing_is_output format n nt l lt output is =
    Passes (netlist_of nt) (is.sound, refl) (Passes (ported_from format lt) (is.library_sound, refl)
    (is.of_cells, is.output_is))
