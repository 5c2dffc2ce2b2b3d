-- The texts of a netlist and a library come to one answer: modules of instances, or a refusal.
use Rattle.std.proofs.Common.{◌≡◌, ◌≢◌, ℕ, List, Option, Some, None, Ok, Err, IsTrue, refl, sym, ap, subst, ◌∙◌}
use Rattle.std.proofs.Common.{inl, inr}
use Rattle.si_base.specs.Netlist.{Netlist}
use Rattle.si_base.specs.NetlistText.{name_of}
use Rattle.si_base.specs.WellFormed.{IsNetlist}
use Rattle.si_base.specs.Words.{is_signal_name}
use Rattle.si_cell.specs.Library.{IsLibrary, cell_at}
use Rattle.si_genlib.specs.Ports.{PortedLibrary}
use Rattle.si_netlist_reader.specs.NetlistFault.{netlist_fault}
use Rattle.si_netlist_reader.specs.NetlistValue.{netlist_of}
use Rattle.si_netlist_reader.proofs.ReadLaw.{read_is_netlist}
use Rattle.si_readings.specs.Laws.{AtMostOne, HasResult}
use Rattle.si_readings.specs.Readings.{fault_in, netlist_in}
use Rattle.si_readings.specs.declared.library_format.LibraryFormat.{LibraryFormat}
use Rattle.si_readings.proofs.StageLemmas.{passed, spelled_one, spelled_some, then_one, then_some}
use Rattle.si_refusals.specs.Refusal.{TextRefusal, Unplaced, Complemented, SameName}
use Rattle.si_refusals.specs.Stages.{Passes}
use Rattle.si_resettable.specs.Forcing.{Forcing, IsForcing, IsResetOf}
use Rattle.si_resettable.specs.Refusals.{HasRoomFor}
use Rattle.si_resettable.specs.declared.refusal.Unresettable.{Unresettable}
use Rattle.si_resettable.specs.declared.refusal.Unresettable.TheVariants as room
use Rattle.si_resettable.proofs.OutcomeLemmas.{none_with_room, one_forcing, one_refusal as one_no_room}
use Rattle.si_resettable.proofs.OutcomeLemmas.{some_forcing, some_outcome as some_room}
use Rattle.si_structure.specs.Laws.{IsPorted}
use Rattle.si_structure.specs.Meaning.{MeansStructure}
use Rattle.si_structure.specs.Refusals.{IsStructured}
use Rattle.si_structure.specs.StructureText.{structure_text}
use Rattle.si_structure.specs.declared.complements.Complements.{Complements}
use Rattle.si_structure.specs.declared.refusal.Unstructured.{Unstructured}
use Rattle.si_structure.specs.declared.refusal.Unstructured.TheVariants as reason
use Rattle.si_structure.proofs.OutcomeLemmas.{one_refusal, none_of_structured}
use Rattle.si_structure.proofs.NetlistDecisions.{some_outcome}
use Rattle.si_structure.proofs.TextLemmas.{text_means}
use Rattle.si_exports.specs.Ported.{ported_from, ported_in}
use Rattle.si_exports.specs.Resettable.{TellsNoRoom}
use Rattle.si_exports.specs.Structure.{IsItsStructure, TellsReason, pin_name, reset_input, structure, structured}
use Rattle.si_exports.proofs.PortedLemmas.{cells_are_library, ports_are_named}
use Rattle.si_exports.proofs.ResettableLemmas.{one_tale as one_room_tale, some_tale as some_room_tale}

-- ---- one gate, or one cell, that is told

-- want of memory is no reason that is told
is_told : (library : PortedLibrary) (n : Netlist) (why : Unstructured) (refusal : TextRefusal)
    → TellsReason library n why refusal → why ≢ reason.NoMemory
is_told library n why refusal told same =
    subst (λ (w : Unstructured). TellsReason library n w refusal) same told

-- a reason is told by one refusal
one_tale : (library : PortedLibrary) (n : Netlist) (why : Unstructured) (q r : TextRefusal)
    → TellsReason library n why q → TellsReason library n why r → q ≡ r
one_tale library n reason.NoMemory q r one other = absurd one
one_tale library n (reason.NoInstance z) q r one other = one ∙ sym other
one_tale library n (reason.Complemented z cell pin) q r one other = one ∙ sym other
one_tale library n reason.ModelIsCell q r one other = one ∙ sym other

-- and each but want of memory by some
some_tale : (library : PortedLibrary) (n : Netlist) (why : Unstructured) → why ≢ reason.NoMemory
    → (refusal : TextRefusal) × TellsReason library n why refusal
some_tale library n reason.NoMemory other = absurd (other refl)
some_tale library n (reason.NoInstance z) other = (Unplaced (name_of n.signals z), refl)
some_tale library n (reason.Complemented z cell pin) other = (
  Complemented (name_of n.signals z) (cell_at library.library cell).name (pin_name library cell pin),
  refl,
)
some_tale library n reason.ModelIsCell other = (SameName n.model, refl)

-- ---- the reset input

-- want of memory is no reason that is told
no_room_is_told : (name : List ℕ) (why : Unresettable) (refusal : TextRefusal) → TellsNoRoom name why refusal
    → why ≢ room.NoMemory
no_room_is_told name why refusal told same = subst (λ (w : Unresettable). TellsNoRoom name w refusal) same told

room_or_reason : (n : Netlist) (name : List ℕ) (f : Forcing) (refusal : TextRefusal) → f.name ≡ name → IsForcing n f
    → reset_input (Some name) n (Err refusal) → ⊥
room_or_reason n name f refusal named is (why, shows, told) =
    no_room_is_told name why refusal told
    (none_with_room n name why (subst (HasRoomFor n) named is.room) shows)

reset_one : (name : Option (List ℕ)) (n : Netlist) → AtMostOne (reset_input name n)
reset_one None n (Ok None) (Ok None) one other = refl
reset_one None n (Ok (Some f)) y one other = absurd one
reset_one None n (Err r) y one other = absurd one
reset_one None n x (Ok (Some f)) one other = absurd other
reset_one None n x (Err r) one other = absurd other
reset_one (Some name) n (Ok None) y one other = absurd one
reset_one (Some name) n x (Ok None) one other = absurd other
reset_one (Some name) n (Ok (Some f)) (Ok (Some g)) one other =
    ap (λ (h : Forcing). Ok (Some h)) (one_forcing n f g (one.0 ∙ sym other.0) one.1 other.1)
reset_one (Some name) n (Ok (Some f)) (Err r) one other = absurd (room_or_reason n name f r one.0 one.1 other)
reset_one (Some name) n (Err q) (Ok (Some g)) one other = absurd (room_or_reason n name g q other.0 other.1 one)
reset_one (Some name) n (Err q) (Err r) (why, shows, told) (because, shown, tale) =
    let same : why ≡ because = one_no_room n name why because (no_room_is_told name why q told)
    (no_room_is_told name because r tale) shows shown in
    ap Err (one_room_tale name because q r (subst (λ (w : Unresettable). TellsNoRoom name w q) same told) tale)

-- the name is one that a signal may have, if there is one
abbrev pub IsNameIfAny : Option (List ℕ) → Type 0
IsNameIfAny None = Unit {0}
IsNameIfAny (Some name) = IsTrue (is_signal_name name)

reset_some : (name : Option (List ℕ)) (n : Netlist) → IsNameIfAny name → HasResult (reset_input name n)
reset_some None n is = (Ok None, tt)
reset_some (Some name) n is = elim (some_room n name) [
  | inl has ↦ (
      let forcing = some_forcing n name has in
      (Ok (Some forcing.0), (forcing.1, forcing.2)))
  | inr (why, other, shows) ↦ (
      let tale = some_room_tale n name why is other shows in
      (Err tale.0, (why, shows, tale.1)))
]

-- the reset input of a stage is one of the netlist
pub reset_fits : (name : Option (List ℕ)) (n : Netlist) (reset : Option Forcing) → reset_input name n (Ok reset)
    → IsResetOf n reset
reset_fits None n None is = tt
reset_fits None n (Some f) is = absurd is
reset_fits (Some name) n None is = absurd is
reset_fits (Some name) n (Some f) is = is.1

-- ---- one netlist over one library

no_reason : (complements : Complements) (library : PortedLibrary) (reset : Option Forcing) (n : Netlist)
    (refusal : TextRefusal) → IsStructured library complements n
    → structured complements library reset n (Err refusal) → ⊥
no_reason complements library reset n refusal is (why, shows, told) =
    is_told library n why refusal told (none_of_structured library complements n why is shows)

structured_one : (complements : Complements) (library : PortedLibrary) (reset : Option Forcing) (n : Netlist)
    → IsLibrary library.library → AtMostOne (structured complements library reset n)
structured_one complements library reset n good (Ok x) (Ok y) one other = ap Ok (one.1 ∙ sym other.1)
structured_one complements library reset n good (Ok x) (Err r) one other =
    absurd (no_reason complements library reset n r one.0 other)
structured_one complements library reset n good (Err q) (Ok y) one other =
    absurd (no_reason complements library reset n q other.0 one)
structured_one complements library reset n good (Err q) (Err r) (why, shows, told) (because, shown, tale) =
    let same : why ≡ because = one_refusal library complements n why because good (is_told library n why q told)
    (is_told library n because r tale) shows shown in
    ap Err (one_tale library n because q r
    (subst (λ (w : Unstructured). TellsReason library n w q) same told) tale)

structured_some : (complements : Complements) (library : PortedLibrary) (reset : Option Forcing) (n : Netlist)
    → IsLibrary library.library → IsNetlist n → HasResult (structured complements library reset n)
structured_some complements library reset n good is = elim (some_outcome library complements n good is) [
  | inl has ↦ (Ok (structure_text library n reset), (has, refl))
  | inr (why, other, shows) ↦ (
      let tale = some_tale library n why other in
      (Err tale.0, (why, shows, tale.1)))
]

-- ---- texts

library_sound : (format : LibraryFormat) (file text : List ℕ) (library : PortedLibrary)
    → ported_in format file text (Ok library) → IsLibrary library.library
library_sound format file text library read =
    subst (λ (l : PortedLibrary). IsLibrary l.library) (sym read.1) (cells_are_library format text read.0)

netlist_sound : (file text : List ℕ) (n : Netlist) → netlist_in file text (Ok n) → IsNetlist n
netlist_sound file text n read = subst IsNetlist (sym read.1) (read_is_netlist text read.0)

pub structure_one : (format : LibraryFormat) (complements : Complements) (name : Option (List ℕ)) (n nt l lt : List ℕ)
    → AtMostOne (structure format complements name n nt l lt)
structure_one format complements name n nt l lt =
    then_one _ _ (spelled_one n (netlist_fault nt) (netlist_of nt)) (λ circuit spelt.
    then_one _ _ (spelled_one l (fault_in format lt) (ported_from format lt)) (λ cells read.
    then_one _ _ (reset_one name circuit) (λ reset input.
    structured_one complements cells reset circuit (library_sound format l lt cells read))))

pub structure_some : (format : LibraryFormat) (complements : Complements) (name : Option (List ℕ)) (n nt l lt : List ℕ)
    → IsNameIfAny name → HasResult (structure format complements name n nt l lt)
structure_some format complements name n nt l lt is =
    then_some _ _ (spelled_some n (netlist_fault nt) (netlist_of nt)) (λ circuit spelt.
    then_some _ _ (spelled_some l (fault_in format lt) (ported_from format lt)) (λ cells read.
    then_some _ _ (reset_some name circuit is) (λ reset input.
    structured_some complements cells reset circuit (library_sound format l lt cells read)
    (netlist_sound n nt circuit spelt))))

-- ---- an output is the netlist as modules

is_ported : (format : LibraryFormat) (text : List ℕ) → fault_in format text ≡ None
    → IsPorted (ported_from format text)
is_ported format text none =
    record { library = cells_are_library format text none; ports = ports_are_named format text none }

its_structure : (format : LibraryFormat) (complements : Complements) (name : Option (List ℕ)) (nt lt output : List ℕ)
    (reset : Option Forcing) → netlist_fault nt ≡ None → fault_in format lt ≡ None
    → reset_input name (netlist_of nt) (Ok reset) → IsStructured (ported_from format lt) complements (netlist_of nt)
    → output ≡ structure_text (ported_from format lt) (netlist_of nt) reset
    → IsItsStructure format complements name nt lt output
its_structure format complements name nt lt output reset sound good input structured is =
    let library = ported_from format lt in
    let n = netlist_of nt in record {
      sound = sound;
      library_sound = good;
      reset = reset;
      is_reset = input;
      structured = structured;
      output_is = is;
      means = subst (λ (t : List ℕ). MeansStructure t library n reset) (sym is)
          (text_means library complements n reset (is_ported format lt good) (read_is_netlist nt sound) structured
          (reset_fits name n reset input));
    }

pub output_is_structure : (format : LibraryFormat) (complements : Complements) (name : Option (List ℕ))
    (n nt l lt output : List ℕ) → structure format complements name n nt l lt (Ok output)
    → IsItsStructure format complements name nt lt output
output_is_structure format complements name n nt l lt output comes =
    let (circuit, spelt, later) = passed (netlist_in n nt) _ output comes in
    let (cells, read, last) = passed (ported_in format l lt) _ output later in
    let (reset, input, is) =
    passed (reset_input name circuit) (λ reset. structured complements cells reset circuit) output last in
    its_structure format complements name nt lt output reset spelt.0 read.0
    (subst (λ (m : Netlist). reset_input name m (Ok reset)) spelt.1 input)
    (subst (λ (m : Netlist). IsStructured (ported_from format lt) complements m) spelt.1
    (subst (λ (library : PortedLibrary). IsStructured library complements circuit) read.1 is.0))
    (is.1 ∙ (λ i. structure_text (read.1 i) (spelt.1 i) reset))

pub structure_is_output : (format : LibraryFormat) (complements : Complements) (name : Option (List ℕ))
    (n nt l lt output : List ℕ) → IsItsStructure format complements name nt lt output
    → structure format complements name n nt l lt (Ok output)
structure_is_output format complements name n nt l lt output is =
    Passes (netlist_of nt) (is.sound, refl) (Passes (ported_from format lt) (is.library_sound, refl)
    (Passes is.reset is.is_reset (is.structured, is.output_is)))
