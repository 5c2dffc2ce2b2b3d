-- (command) What the program tells of itself.
use Rattle.std.specs.Prelude.{◌≡◌, ℕ, Bool, false, if◌then◌else◌, List, [], ◌∷◌, ◌++◌}
use Rattle.std.specs.Prelude.{bytes_eq, length, map, drop, codes}
use Rattle.std.specs.List.{flat_map}
use Rattle.si_base.specs.Bytes.{space}
use Rattle.si_commands.specs.Command.{Row, Request, form_of, rows}
use Rattle.si_commands.specs.Form.{Form, Slot, Word, File, LoneFile, LibraryFile, OneOf, Name}
use Rattle.si_commands.specs.Form.{Tail, Nothing}
use Rattle.si_commands.specs.Form.{MoreFiles, MorePairs, Options}
use Rattle.si_commands.specs.declared.about.TheConstants.{HELP_HEAD, HELP_TAIL, BLANKS, VERSION}
use Rattle.si_commands.specs.declared.notes.TheConstants.{NOTES}
use Rattle.si_commands.specs.declared.task.HelpPlace.{HelpPlace}
use Rattle.si_commands.specs.declared.task.Task.{Task}
use Rattle.si_commands.specs.declared.task.Task.TheVariants.{About}
use Rattle.si_commands.specs.declared.task.Topic.{Topic}
use Rattle.si_commands.specs.declared.task.Topic.TheVariants.{Help, Page, Version}

-- what the help shows for a place of a form
abbrev pub shown_slot : Slot → List ℕ
shown_slot (Word word) = word
shown_slot (File name) = name
shown_slot (LoneFile name) = name
shown_slot (LibraryFile name kept) = name
shown_slot (OneOf name words) = name
shown_slot (Name name) = name

-- and for what may stand behind them: two dots for files, each option in brackets
abbrev pub shown_option : (option : List ℕ) → List ℕ
shown_option option = codes " [" ++ option ++ codes "]"

abbrev pub shown_tail : Tail → List ℕ
shown_tail Nothing = []
shown_tail (MoreFiles most) = codes " .."
shown_tail (MorePairs most) = codes " .."
shown_tail (Options options) = flat_map (λ option. shown_option option) options

-- the words of a form, behind that of the program
abbrev pub shown_form : Form → List ℕ
shown_form form = codes "sisyn" ++ flat_map (λ slot. space ∷ shown_slot slot) form.places
    ++ shown_tail form.tail

-- its line of the help, up to what is said of it
abbrev pub shown_part : Form → List ℕ
shown_part form = codes "\n  " ++ shown_form form ++ codes "  "

-- and all of it
abbrev pub row_line : Row → List ℕ
row_line row = shown_part row.form ++ drop (length (shown_form row.form)) BLANKS.now ++ row.says

-- a line for each row of the table, between what stands before them and behind
unfoldable pub help_text : List ℕ
help_text = HELP_HEAD.now ++ flat_map row_line rows ++ HELP_TAIL.now

-- a form begins with a word
abbrev pub begins_at : (word : List ℕ) → List Slot → Bool
begins_at word (Word own ∷ places) = bytes_eq own word
begins_at word places = false

abbrev pub begins : (word : List ℕ) → Form → Bool
begins word form = begins_at word form.places

-- the line of a row on the page of a word
abbrev pub line_of : (word : List ℕ) → Row → List ℕ
line_of word row = if begins word row.form then row_line row else []

-- the notes, each beside its word, stand where the code has them
abbrev pub notes : List (List ℕ × List ℕ)
notes = map (λ note. (note.0.now, note.1.now)) NOTES.now

-- what a note says of a word
abbrev pub note_of : (word : List ℕ) → List ℕ × List ℕ → List ℕ
note_of word note = if bytes_eq note.0 word then note.1 else []

-- the page of a word: a line for each of the forms that begin with it, and what the notes say
unfoldable pub page_text : (word : List ℕ) → List ℕ
page_text word = word ++ codes "\n" ++ flat_map (line_of word) rows ++ codes "\n\n"
    ++ flat_map (note_of word) notes

-- the text on a topic, for the words that are chosen
abbrev pub about_text : Topic → (choices : List (List ℕ)) → List ℕ
about_text Help choices = help_text
about_text (Page place) (word ∷ []) = page_text word
about_text (Page place) choices = []
about_text Version choices = VERSION.now

-- a line of the text shows the task
pub record Shows (text : List ℕ) (task : Task) : Type 0 where
  pub before : List ℕ
  pub after : List ℕ
  pub stands : text ≡ before ++ shown_part (form_of task) ++ after

-- the page of a word is asked for
abbrev pub page_asked : HelpPlace → (word : List ℕ) → Request
page_asked place word = record { task = About (Page place); files = []; choices = word ∷ [] }
