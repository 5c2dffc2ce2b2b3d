-- The text of a netlist and a name come to one answer: a module with a reset input, or a refusal.
use Rattle.std.proofs.Common.{◌≡◌, ◌≢◌, ℕ, List, Ok, Err, IsTrue, refl, sym, ap, subst, ◌∙◌, inl, inr}
use Rattle.std.proofs.lemmas.Bool.{true≢false}
use Rattle.si_base.specs.Netlist.{Netlist}
use Rattle.si_base.specs.Words.{is_signal_name}
use Rattle.si_netlist_reader.specs.NetlistFault.{netlist_fault}
use Rattle.si_netlist_reader.specs.NetlistValue.{netlist_of}
use Rattle.si_netlist_reader.proofs.ReadLaw.{read_is_netlist}
use Rattle.si_readings.specs.Laws.{AtMostOne, HasResult}
use Rattle.si_readings.specs.Readings.{netlist_in}
use Rattle.si_readings.proofs.StageLemmas.{passed, spelled_one, spelled_some, then_one, then_some}
use Rattle.si_refusals.specs.Refusal.{TextRefusal, SameName}
use Rattle.si_refusals.specs.Stages.{Passes}
use Rattle.si_resettable.specs.Refusals.{HasRoomFor, Shows}
use Rattle.si_resettable.specs.ResettableText.{IsResettableText}
use Rattle.si_resettable.specs.declared.refusal.Unresettable.{Unresettable}
use Rattle.si_resettable.specs.declared.refusal.Unresettable.TheVariants as reason
use Rattle.si_resettable.proofs.ModuleLemmas.{text_means}
use Rattle.si_resettable.proofs.OutcomeLemmas.{none_with_room, one_refusal, one_text, some_outcome, some_text}
use Rattle.si_exports.specs.Resettable.{IsItsResettable, TellsNoRoom, resettable, with_reset}

-- want of memory is no reason that is told
is_told : (name : List ℕ) (why : Unresettable) (refusal : TextRefusal) → TellsNoRoom name why refusal
    → why ≢ reason.NoMemory
is_told name why refusal told same = subst (λ (w : Unresettable). TellsNoRoom name w refusal) same told

-- a reason is told by one refusal
pub one_tale : (name : List ℕ) (why : Unresettable) (q r : TextRefusal) → TellsNoRoom name why q
    → TellsNoRoom name why r → q ≡ r
one_tale name reason.NoMemory q r one other = absurd one
one_tale name reason.NotAName q r one other = absurd one
one_tale name reason.NameIsTaken q r one other = one ∙ sym other

-- and where the name is one, each but want of memory by some
pub some_tale : (n : Netlist) (name : List ℕ) (why : Unresettable) → IsTrue (is_signal_name name)
    → why ≢ reason.NoMemory → Shows n name why → (refusal : TextRefusal) × TellsNoRoom name why refusal
some_tale n name reason.NoMemory is other shows = absurd (other refl)
some_tale n name reason.NotAName is other shows = absurd (true≢false (sym is ∙ shows))
some_tale n name reason.NameIsTaken is other shows = (SameName name, refl)

-- ---- one netlist

with_reset_one : (name : List ℕ) (n : Netlist) → AtMostOne (with_reset name n)
with_reset_one name n (Ok x) (Ok y) one other = ap Ok (one_text n name x y one.1 other.1)
with_reset_one name n (Ok x) (Err r) one (why, shows, told) =
    absurd (is_told name why r told (none_with_room n name why one.0 shows))
with_reset_one name n (Err q) (Ok y) (why, shows, told) other =
    absurd (is_told name why q told (none_with_room n name why other.0 shows))
with_reset_one name n (Err q) (Err r) (why, shows, told) (because, shown, tale) =
    let same : why ≡ because = one_refusal n name why because (is_told name why q told) (is_told name because r tale)
    shows shown in
    ap Err (one_tale name because q r (subst (λ (w : Unresettable). TellsNoRoom name w q) same told) tale)

with_reset_some : (name : List ℕ) (n : Netlist) → IsTrue (is_signal_name name) → HasResult (with_reset name n)
with_reset_some name n is = elim (some_outcome n name) [
  | inl room ↦ (
      let written = some_text n name in
      (Ok written.0, (room, written.1)))
  | inr (why, other, shows) ↦ (
      let tale = some_tale n name why is other shows in
      (Err tale.0, (why, shows, tale.1)))
]

-- ---- texts

pub resettable_one : (file text name : List ℕ) → AtMostOne (resettable file text name)
resettable_one file text name =
    then_one _ _ (spelled_one file (netlist_fault text) (netlist_of text))
    (λ circuit spelt. with_reset_one name circuit)

pub resettable_some : (file text name : List ℕ) → IsTrue (is_signal_name name) → HasResult (resettable file text name)
resettable_some file text name is =
    then_some _ _ (spelled_some file (netlist_fault text) (netlist_of text))
    (λ circuit spelt. with_reset_some name circuit is)

-- ---- an output is the netlist as a module with the reset input

pub output_is_resettable : (file text name output : List ℕ) → resettable file text name (Ok output)
    → IsItsResettable text name output
output_is_resettable file text name output comes =
    let (circuit, spelt, is) = passed (netlist_in file text) (with_reset name) output comes in
    let n = netlist_of text in
    let room : HasRoomFor n name = subst (λ (m : Netlist). HasRoomFor m name) spelt.1 is.0 in
    let written : IsResettableText n name output =
    subst (λ (m : Netlist). IsResettableText m name output) spelt.1 is.1 in
    record {
      sound = spelt.0;
      room = room;
      output_is = written;
      means = text_means n name output (read_is_netlist text spelt.0) room written;
    }

pub resettable_is_output : (file text name output : List ℕ) → IsItsResettable text name output
    → resettable file text name (Ok output)
resettable_is_output file text name output is = Passes (netlist_of text) (is.sound, refl) (is.room, is.output_is)
