-- What the code holds, as definitions speak of it.
use Rattle.std.specs.Prelude.{ℕ, List, map, Vec}
use Rattle.std.specs.declared.alloc.Global.{Global}
use Rattle.si_words.specs.Loops.Reads.{words_now}
use Rattle.si_commands.specs.Command.{Request, Row}
use Rattle.si_commands.specs.Form.{Form, Slot, Word, File, LoneFile, LibraryFile, OneOf, Name}
use Rattle.si_commands.specs.Form.{Tail, Nothing}
use Rattle.si_commands.specs.Form.{MoreFiles, MorePairs, Options}
use Rattle.si_commands.specs.declared.command.Command.{Command}
use Rattle.si_commands.specs.declared.form.Slot.{Slot as HeldSlot}
use Rattle.si_commands.specs.declared.form.Slot.TheVariants as held
use Rattle.si_commands.specs.declared.form.Tail.{Tail as HeldTail}
use Rattle.si_commands.specs.declared.form.Tail.TheVariants as tail
use Rattle.si_commands.specs.declared.table.Row.{Row as HeldRow}

-- texts, by their bytes
abbrev pub texts_now : List (Vec ℕ Global) → List (List ℕ)
texts_now texts = map (λ text. text.items) texts

-- the places of a form, and what stands behind them, with their words by their bytes
abbrev pub slot_now : HeldSlot → Slot
slot_now (held.Word word) = Word word.now
slot_now (held.File name) = File name.now
slot_now (held.LoneFile name) = LoneFile name.now
slot_now (held.LibraryFile name kept) = LibraryFile name.now (words_now kept.now)
slot_now (held.OneOf name words) = OneOf name.now (words_now words.now)
slot_now (held.Name name) = Name name.now

abbrev pub slots_now : List HeldSlot → List Slot
slots_now places = map slot_now places

abbrev pub tail_now : HeldTail → Tail
tail_now tail.Nothing = Nothing
tail_now (tail.MoreFiles most) = MoreFiles most
tail_now (tail.MorePairs most) = MorePairs most
tail_now (tail.Options options) = Options (words_now options.now)

abbrev pub form_now : List HeldSlot → HeldTail → Form
form_now places tail = record { places = slots_now places; tail = tail_now tail }

-- a row of the table
abbrev pub row_now : HeldRow → Row
row_now row = record { form = form_now row.places.now row.tail; says = row.says.now }

-- a command: its task, with what its words give it
abbrev pub request_of : Command → Request
request_of command = record {
  task = command.task;
  files = words_now command.given.files.items;
  choices = words_now command.given.choices.items;
}
