-- (command) What `verilog` means over the text of its file and the name of a reset input: the
-- netlist as a module with that input.
use Rattle.std.specs.Prelude.{◌≡◌, ℕ, List, None, Ok, Err}
use Rattle.si_base.specs.Netlist.{Netlist}
use Rattle.si_netlist_reader.specs.NetlistFault.{netlist_fault}
use Rattle.si_netlist_reader.specs.NetlistValue.{netlist_of}
use Rattle.si_refusals.specs.Refusal.{TextRefusal, SameName}
use Rattle.si_refusals.specs.Stages.{Stage, ◌>>=◌}
use Rattle.si_readings.specs.Readings.{netlist_in}
use Rattle.si_resettable.specs.Meaning.{MeansResettable}
use Rattle.si_resettable.specs.Refusals.{HasRoomFor, Shows}
use Rattle.si_resettable.specs.ResettableText.{IsResettableText}
use Rattle.si_resettable.specs.declared.refusal.Unresettable.{Unresettable}
use Rattle.si_resettable.specs.declared.refusal.Unresettable.TheVariants as reason

-- the refusal tells the reason; a word that is no name asks for nothing, and so none tells of it
abbrev pub TellsNoRoom : (name : List ℕ) → Unresettable → TextRefusal → Type 0
TellsNoRoom name reason.NoMemory refusal = ⊥
TellsNoRoom name reason.NotAName refusal = ⊥
TellsNoRoom name reason.NameIsTaken refusal = refusal ≡ SameName name

-- the module of a netlist with a reset input of the name, or why it has none
abbrev pub with_reset : (name : List ℕ) → Netlist → Stage TextRefusal (List ℕ)
with_reset name n (Ok text) = HasRoomFor n name × IsResettableText n name text
with_reset name n (Err refusal) =
    (why : Unresettable) × Shows n name why × TellsNoRoom name why refusal

abbrev pub resettable : (file text name : List ℕ) → Stage TextRefusal (List ℕ)
resettable file text name = do
  circuit ← netlist_in file text
  with_reset name circuit

-- the text spells a netlist, no signal of which has the name, and the output is that netlist as a
-- module with the reset input, which means it
pub record IsItsResettable (text name output : List ℕ) : Type 0 where
  pub sound : netlist_fault text ≡ None
  pub room : HasRoomFor (netlist_of text) name
  pub output_is : IsResettableText (netlist_of text) name output
  pub means : MeansResettable output (netlist_of text) name
