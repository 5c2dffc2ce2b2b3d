-- The table has a row for each task, with the form of the task.
use Rattle.std.proofs.Common.{◌≡◌, ℕ, zero, suc, ◌+◌, ◌-◌, ◌<◌, ◌≤◌, List, [], ◌∷◌, length, map, get_or, refl, sym}
use Rattle.std.proofs.Common.{ap, subst}
use Rattle.std.proofs.Common.{◌∙◌, arith, inl, inr, lit≤, Bool, true, false, bytes_eq, String, Global}
use Rattle.std.proofs.Math.ListN.{get_or-map}
use Rattle.std.proofs.lemmas.Bool.{cases_lt}
use Rattle.std.proofs.lemmas.Slice.Eq.{bytes_eq-Decides}
use Rattle.std.proofs.lemmas.List.{length-map}
use Rattle.si_circuit.specs.declared.style.Style.TheVariants.{Complex, GeneralisedC}
use Rattle.si_reports.specs.declared.netlist_report.NetlistReport.TheVariants.{Loops, Reset}
use Rattle.si_reports.specs.declared.replay_kind.ReplayReport.TheVariants.{End, Wave}
use Rattle.si_reports.specs.declared.report_kind.Report.TheVariants.{Summary, Regions, Conflicts, Covers, Fold}
use Rattle.si_reports.specs.declared.report_kind.Report.TheVariants.{States, Explain, Dot, Lint}
use Rattle.si_words.specs.Names.{stands_in}
use Rattle.si_commands.specs.Command.{Asks, AsksNothing, Row, digits, form_of, most_files, number_of, row_of, rows}
use Rattle.si_commands.specs.Command.{tasks}
use Rattle.si_commands.specs.Form.{Form, HasForm, choice_count, file_count, more_choices, more_files, words_of}
use Rattle.si_handshakes.specs.Handshakes.{max_handshakes}
use Rattle.si_commands.specs.Loops.Reads.{row_now}
use Rattle.si_commands.specs.declared.form.Tail.TheVariants as held
use Rattle.si_commands.specs.declared.task.LibraryKind.{LibraryKind}
use Rattle.si_commands.specs.declared.task.LibraryKind.TheVariants.{Cells, Gates}
use Rattle.si_commands.specs.declared.task.Topic.{Topic}
use Rattle.si_commands.proofs.FormLemmas.{IsCount}
use Rattle.si_commands.proofs.FormMeets.{overlaps}
use Rattle.si_commands.specs.declared.table.Row.{Row as HeldRow}
use Rattle.si_commands.specs.declared.task.Task.{Task}
use Rattle.si_commands.specs.declared.task.Task.TheVariants.{About, Tell, Synth, Map, FromGenlib, Verilog, Replay}
use Rattle.si_commands.specs.declared.task.Task.TheVariants.{Audit, Certify, CertifyEquations}
use Rattle.si_commands.specs.declared.task.Task.TheVariants.{CertifyModules, InsertGate}
use Rattle.si_commands.specs.declared.task.Task.TheVariants.{TellNetlist, Resolve, Insert, Same, Exercise, Suggest}
use Rattle.si_commands.specs.declared.task.Task.TheVariants.{Structure, Equations, Resettable, Timing}
use Rattle.si_commands.specs.declared.task.Task.TheVariants.{ResettableStructure}
use Rattle.si_commands.specs.declared.task.Task.TheVariants as task
use Rattle.si_commands.specs.declared.task.Together.{Together}
use Rattle.si_commands.specs.declared.task.Together.TheVariants as together
use Rattle.si_commands.specs.declared.task.Topic.TheVariants.{Help, Page, Version}
use Rattle.si_commands.specs.declared.task.HelpPlace.TheVariants.{Before, Behind}

-- ---- the table has each task

-- what a read past the end gives
abbrev pub first_task : Task
first_task = Tell Summary

abbrev pub IsListed : Task → Type 0
IsListed task = (place : ℕ) × (place < length tasks) × (get_or tasks place first_task ≡ task)

-- the place of the first with a form that the words of this one may have
abbrev place_among : List Task → Form → ℕ
place_among [] form = 0
place_among (task ∷ later) form =
    elim (overlaps (form_of task) form) [ true ↦ 0 | false ↦ suc (place_among later form) ]

abbrev place : Task → ℕ
place task = place_among tasks (form_of task)

pub each_listed : (task : Task) → IsListed task
each_listed (About Help) = (place (About Help), lit≤ tt, refl)
each_listed (About (Page Before)) = (place (About (Page Before)), lit≤ tt, refl)
each_listed (About (Page Behind)) = (place (About (Page Behind)), lit≤ tt, refl)
each_listed (About Version) = (place (About Version), lit≤ tt, refl)
each_listed (Tell Summary) = (place (Tell Summary), lit≤ tt, refl)
each_listed (Tell Regions) = (place (Tell Regions), lit≤ tt, refl)
each_listed (Tell Conflicts) = (place (Tell Conflicts), lit≤ tt, refl)
each_listed (Tell Covers) = (place (Tell Covers), lit≤ tt, refl)
each_listed (Tell Fold) = (place (Tell Fold), lit≤ tt, refl)
each_listed (Tell States) = (place (Tell States), lit≤ tt, refl)
each_listed (Tell Explain) = (place (Tell Explain), lit≤ tt, refl)
each_listed (Tell Dot) = (place (Tell Dot), lit≤ tt, refl)
each_listed (Tell Lint) = (place (Tell Lint), lit≤ tt, refl)
each_listed (Synth Complex) = (place (Synth Complex), lit≤ tt, refl)
each_listed (Synth GeneralisedC) = (place (Synth GeneralisedC), lit≤ tt, refl)
each_listed (Suggest Complex) = (place (Suggest Complex), lit≤ tt, refl)
each_listed (Suggest GeneralisedC) = (place (Suggest GeneralisedC), lit≤ tt, refl)
each_listed (Map Cells) = (place (Map Cells), lit≤ tt, refl)
each_listed (Map Gates) = (place (Map Gates), lit≤ tt, refl)
each_listed Resolve = (place Resolve, lit≤ tt, refl)
each_listed Insert = (place Insert, lit≤ tt, refl)
each_listed InsertGate = (place InsertGate, lit≤ tt, refl)
each_listed FromGenlib = (place FromGenlib, lit≤ tt, refl)
each_listed Verilog = (place Verilog, lit≤ tt, refl)
each_listed Resettable = (place Resettable, lit≤ tt, refl)
each_listed (Structure Cells) = (place (Structure Cells), lit≤ tt, refl)
each_listed (Structure Gates) = (place (Structure Gates), lit≤ tt, refl)
each_listed (ResettableStructure Cells) = (place (ResettableStructure Cells), lit≤ tt, refl)
each_listed (ResettableStructure Gates) = (place (ResettableStructure Gates), lit≤ tt, refl)
each_listed Equations = (place Equations, lit≤ tt, refl)
each_listed (TellNetlist Loops) = (place (TellNetlist Loops), lit≤ tt, refl)
each_listed (TellNetlist Reset) = (place (TellNetlist Reset), lit≤ tt, refl)
each_listed (Timing Cells) = (place (Timing Cells), lit≤ tt, refl)
each_listed (Timing Gates) = (place (Timing Gates), lit≤ tt, refl)
each_listed (Replay End) = (place (Replay End), lit≤ tt, refl)
each_listed (Replay Wave) = (place (Replay Wave), lit≤ tt, refl)
each_listed Audit = (place Audit, lit≤ tt, refl)
each_listed Certify = (place Certify, lit≤ tt, refl)
each_listed CertifyEquations = (place CertifyEquations, lit≤ tt, refl)
each_listed CertifyModules = (place CertifyModules, lit≤ tt, refl)
each_listed Same = (place Same, lit≤ tt, refl)
each_listed (task.Together together.Product) = (place (task.Together together.Product), lit≤ tt, refl)
each_listed (task.Together together.Compose) = (place (task.Together together.Compose), lit≤ tt, refl)
each_listed (task.Together together.Join) = (place (task.Together together.Join), lit≤ tt, refl)
each_listed (task.Together together.Works) = (place (task.Together together.Works), lit≤ tt, refl)
each_listed Exercise = (place Exercise, lit≤ tt, refl)

-- ---- the rows that the code holds

-- of a place in a list, whatever a read past the end gives
same_item : {A : Type 0} (xs : List A) (place : ℕ) (past other : A) → place < length xs
    → get_or xs place past ≡ get_or xs place other
same_item [] place past other below = absurd (omega (arith, below))
same_item (x ∷ xs) zero past other below = refl
same_item (x ∷ xs) (suc place) past other below = same_item xs place past other (omega (arith, below))

-- what a function makes of an item, where it makes these of all items
item_is : {A B : Type 0} (f : A → B) (held : List A) (made : List B) (place : ℕ) (past : A) (other : B)
    → map f held ≡ made → place < length held → f (get_or held place past) ≡ get_or made place other
item_is {A} {B} f held made place past other all below =
    let many = length-map held f in
    let as_many = ap (λ (l : List B). length l) all in
    let within : place < length made = omega (arith, below, many, as_many) in
    sym (get_or-map f held place past) ∙ ap (λ (l : List B). get_or l place (f past)) all
    ∙ same_item made place (f past) other within

abbrev pub task_at : (place : ℕ) → Task
task_at place = get_or tasks place first_task

-- what a read past the end of the rows gives
abbrev pub no_row : HeldRow
no_row = record {
  task = About Help;
  places = record { ref_ptr = (0, 0); now = [] };
  tail = held.Nothing;
  says = record { ref_ptr = (0, 0); now = [] };
}

abbrev pub row_at : List HeldRow → (place : ℕ) → HeldRow
row_at held place = get_or held place no_row

module _ (held : List HeldRow) (have_tasks : map (λ row. row.task) held ≡ tasks)
    (are_rows : map row_now held ≡ rows) (place : ℕ) (below : place < length held) where
  task_is : (row_at held place).task ≡ task_at place
  task_is = item_is (λ (r : HeldRow). r.task) held tasks place no_row first_task have_tasks below

  form_is : (row_now (row_at held place)).form ≡ form_of (task_at place)
  form_is =
      let same : row_now (row_at held place) ≡ get_or rows place (row_of first_task) =
      item_is row_now held rows place no_row (row_of first_task) are_rows below in
      ap (λ (r : Row). r.form) (same ∙ get_or-map row_of tasks place first_task)

  -- words with the form of a row ask for its task
  pub asks_for_row : (words : List (String Global)) (files choices : List (List ℕ))
      → HasForm (row_now (row_at held place)).form (words_of words) files choices
      → Asks words (record { task = (row_at held place).task; files = files; choices = choices })
  asks_for_row words files choices has =
      subst (λ (form : Form). HasForm form (words_of words) files choices) (form_is ∙ ap form_of (sym task_is)) has

-- ---- words ask for none of the tasks up to a place
abbrev pub AsksNoneBefore : List (String Global) → (place : ℕ) → Type 0
AsksNoneBefore words place = (k : ℕ) → k < place → (files choices : List (List ℕ))
    → HasForm (form_of (task_at k)) (words_of words) files choices → ⊥

pub asks_one_less : (words : List (String Global)) (held : List HeldRow) (place : ℕ)
    → map (λ r. r.task) held ≡ tasks → map row_now held ≡ rows → place < length held → AsksNoneBefore words place
    → ((files choices : List (List ℕ))
    → HasForm (row_now (row_at held place)).form (words_of words) files choices → ⊥)
    → AsksNoneBefore words (place + 1)
asks_one_less words held place have_tasks are_rows below before here k within files choices has =
    elim (cases_lt k place) [
      | inl earlier ↦ before k earlier files choices has
      | inr later ↦ (
          let same : k ≡ place = omega arith in
          let form : form_of (task_at k) ≡ (row_now (row_at held place)).form =
          ap (λ (n : ℕ). form_of (task_at n)) same ∙ sym (form_is held have_tasks are_rows place below) in
          here files choices (subst (λ (f : Form). HasForm f (words_of words) files choices) form has)
          )
    ]

pub asks_nothing : (words : List (String Global)) (held : List HeldRow) (place : ℕ)
    → map (λ row. row.task) held ≡ tasks → length held ≤ place → AsksNoneBefore words place → AsksNothing words
asks_nothing words held place have_tasks end none request asks =
    let listed = each_listed request.task in
    let many = length-map held (λ (row : HeldRow). row.task) in
    let as_many = ap (λ (l : List Task). length l) have_tasks in
    let HasIt : Task → Type 0 = λ task. HasForm (form_of task) (words_of words) request.files request.choices in
    none listed.0 (omega (arith, listed.1, many, as_many, end)) request.files request.choices
    (subst HasIt (sym listed.2) asks)

-- a graph and a library, however it is read, are two files
pub two_files : (kind : LibraryKind) (count : ℕ)
    → IsCount (file_count (form_of (Map kind)).places) (more_files (form_of (Map kind)).tail) count → IsCount 2 0 count
two_files Cells count many = many
two_files Gates count many = many

-- and so are a netlist and a library
pub two_files_placed : (kind : LibraryKind) (count : ℕ)
    → IsCount (file_count (form_of (Structure kind)).places) (more_files (form_of (Structure kind)).tail) count
    → IsCount 2 0 count
two_files_placed Cells count many = many
two_files_placed Gates count many = many

pub two_files_reset : (kind : LibraryKind) (count : ℕ)
    → IsCount (file_count (form_of (ResettableStructure kind)).places)
    (more_files (form_of (ResettableStructure kind)).tail) count → IsCount 2 0 count
two_files_reset Cells count many = many
two_files_reset Gates count many = many

-- and a word is chosen there
pub some_reset : (kind : LibraryKind) (count : ℕ)
    → IsCount (choice_count (form_of (ResettableStructure kind)).places)
    (more_choices (form_of (ResettableStructure kind)).tail) count → 1 ≤ count
some_reset Cells count many = many.low
some_reset Gates count many = many.low

pub two_files_timed : (kind : LibraryKind) (count : ℕ)
    → IsCount (file_count (form_of (Timing kind)).places) (more_files (form_of (Timing kind)).tail) count
    → IsCount 2 0 count
two_files_timed Cells count many = many
two_files_timed Gates count many = many

-- the words that are chosen of what the program tells of itself are those of the places
pub no_options : (topic : Topic) (count : ℕ)
    → IsCount (choice_count (form_of (About topic)).places) (more_choices (form_of (About topic)).tail) count
    → count ≡ choice_count (form_of (About topic)).places
no_options Help count many = omega (arith, many.low, many.high)
no_options (Page Before) count many = omega (arith, many.low, many.high)
no_options (Page Behind) count many = omega (arith, many.low, many.high)
no_options Version count many = omega (arith, many.low, many.high)

-- ---- digits

-- what holds of each of these words holds of one that stands among them
abbrev AllOf : (List ℕ → Type 0) → List (List ℕ) → Type 0
AllOf P [] = Unit {0}
AllOf P (word ∷ words) = P word × AllOf P words

of_all : (P : List ℕ → Type 0) (words : List (List ℕ)) (word : List ℕ) → stands_in words word ≡ true
    → AllOf P words → P word
of_all P [] word stands all = cc
of_all P (own ∷ words) word stands all = first (bytes_eq word own) refl (of_all P words word)
  where
    first : (b : Bool) → bytes_eq word own ≡ b → (stands_in words word ≡ true → AllOf P words → P word) → P word
    first true is later = subst P (sym ((bytes_eq-Decides word own).0 is)) all.0
    first false is later = later (rw is at stands) all.1

-- no more files are named of controllers together than may be
pub few_together : (what : Together) (count : ℕ)
    → IsCount (file_count (form_of (task.Together what)).places) (more_files (form_of (task.Together what)).tail) count
    → count ≤ most_files what
few_together together.Product count is = omega (arith, is.high)
few_together together.Compose count is = omega (arith, is.high)
few_together together.Join count is = omega (arith, is.high)
few_together together.Works count is = omega (arith, is.high)

pub record IsDigit (word : List ℕ) : Type 0 where
  pub digit : ℕ
  pub word_is : word ≡ digit ∷ []
  pub low : 49 ≤ digit
  pub high : digit ≤ 56

digit_of : (digit : ℕ) → 49 ≤ digit → digit ≤ 56 → IsDigit (digit ∷ [])
digit_of digit low high = record { digit = digit; word_is = refl; low = low; high = high }

pub is_digit : (word : List ℕ) → stands_in digits word ≡ true → IsDigit word
is_digit word stands = of_all IsDigit digits word stands (
  digit_of 49 (lit≤ tt) (lit≤ tt),
  (
    digit_of 50 (lit≤ tt) (lit≤ tt),
    (
      digit_of 51 (lit≤ tt) (lit≤ tt),
      (
        digit_of 52 (lit≤ tt) (lit≤ tt),
        (
          digit_of 53 (lit≤ tt) (lit≤ tt),
          (
            digit_of 54 (lit≤ tt) (lit≤ tt),
            (digit_of 55 (lit≤ tt) (lit≤ tt), (digit_of 56 (lit≤ tt) (lit≤ tt), tt)),
          ),
        ),
      ),
    ),
  ),
)

-- as many handshakes as a digit spells have a graph
pub few_handshakes : (word : List ℕ) → stands_in digits word ≡ true → number_of word ≤ max_handshakes
few_handshakes word stands =
    let digit = is_digit word stands in
    let few : digit.digit - 48 ≤ max_handshakes = omega (arith, digit.high) in
    rw digit.word_is few
