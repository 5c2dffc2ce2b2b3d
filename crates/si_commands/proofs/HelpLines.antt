-- The help shows each command; and the texts that are put together of lines.
use Rattle.std.proofs.Common.{◌≡◌, ◌+◌, ◌-◌, ◌++◌, ◌<◌, ◌≤◌, ℕ, suc, List, [], ◌∷◌, length, map, take, drop, get_or}
use Rattle.std.proofs.Common.{◌∙◌, refl, sym, ap, ap₂, subst, arith, append_assoc, codes, Bool, true, false, Bor}
use Rattle.std.proofs.Common.{add-one, Result, Ok, Err, OnOk}
use Rattle.std.specs.Prelude.{if◌then◌else◌}
use Rattle.std.proofs.Math.ListN.{get_or-map}
use Rattle.std.proofs.Math.Seq.{drop-cons, take-suc, take_all}
use Rattle.std.proofs.lemmas.Grind.{flat_map-append}
use Rattle.std.proofs.lemmas.List.{take-append-drop, length-append, length-map}
use Rattle.std.proofs.lemmas.List.Folds.{flat_map-map}
use Rattle.std.proofs.lemmas.Slice.Eq.{bytes_eq-Decides}
use Rattle.std.specs.List.{flat_map, list_all}
use Rattle.si_base.specs.Bytes.{space}
use Rattle.si_words.specs.Names.{stands_in}
use Rattle.si_commands.specs.About.{Shows, shown_form, shown_part, shown_slot, row_line, help_text}
use Rattle.si_commands.specs.About.{begins, line_of, note_of, notes, page_text}
use Rattle.si_commands.specs.About.{begins_at, shown_option, shown_tail}
use Rattle.si_commands.specs.Command.{Row, command_words, form_of, row_of, rows, tasks}
use Rattle.si_commands.specs.Form.{Form, Slot, Word, File, LoneFile, LibraryFile, OneOf, Name}
use Rattle.si_commands.specs.Loops.Reads.{form_now, row_now, slot_now, slots_now, tail_now}
use Rattle.si_words.specs.Loops.Reads.{words_now}
use Rattle.si_commands.specs.declared.about.TheConstants.{HELP_HEAD, HELP_TAIL, BLANKS}
use Rattle.si_commands.specs.declared.form.Slot.{Slot as HeldSlot}
use Rattle.si_commands.specs.declared.form.Tail.{Tail as HeldTail}
use Rattle.si_commands.specs.declared.table.Row.{Row as HeldRow}
use Rattle.si_commands.specs.declared.task.Task.{Task}
use Rattle.si_commands.proofs.CommandTasks.{each_listed, first_task}
use Rattle.si_commands.proofs.FormOverlap.{one_of_all}

-- ---- forms and lines, as the code adds them
pub form_added : (places : List HeldSlot) (tail : HeldTail) (k : ℕ) (old start text all : List ℕ) → length places ≤ k
    → start ≡ old ++ codes "sisyn"
    → text ≡ start ++ flat_map (λ slot. space ∷ shown_slot (slot_now slot)) (take k places)
    → all ≡ text ++ shown_tail (tail_now tail) → all ≡ old ++ shown_form (form_now places tail)
form_added places tail k old start text all end begins is more =
    let word : Slot → List ℕ = λ slot. space ∷ shown_slot slot in
    let first : take k places ≡ places = take_all k places end in
    let words : flat_map (λ slot. word (slot_now slot)) (take k places) ≡ flat_map word (slots_now places) =
    ap (λ f. flat_map (λ slot. word (slot_now slot)) f) first ∙ sym (flat_map-map word slot_now places) in
    more ∙ ap (λ (l : List ℕ). l ++ shown_tail (tail_now tail)) (is ∙ ap₂ (λ (l m : List ℕ). l ++ m) begins words)
    ∙ joined_words old (codes "sisyn") (flat_map word (slots_now places)) (shown_tail (tail_now tail))
  where
    joined_words : (old name words more : List ℕ)
        → ((old ++ name) ++ words) ++ more ≡ old ++ ((name ++ words) ++ more)
    joined_words old name words more = simp append_assoc refl

pub ok_weaker : {A E : Type 0} (r : Result A E) (P Q : Type 0) → (P → Q) → OnOk r P → OnOk r Q
ok_weaker (Ok a) P Q more is = more is
ok_weaker (Err e) P Q more is = tt

-- an option is added in three pieces
pub option_added : (options : List (Bor (List ℕ))) (place : ℕ) (past : Bor (List ℕ))
    (old text first second third : List ℕ) → place < length options
    → text ≡ old ++ flat_map (λ option. shown_option option) (take place (words_now options))
    → first ≡ text ++ codes " [" → second ≡ first ++ (get_or options place past).now → third ≡ second ++ codes "]"
    → third ≡ old ++ flat_map (λ option. shown_option option) (take (place + 1) (words_now options))
option_added options place past old text first second third below is one two three =
    let own = (get_or options place past).now in
    let many = length-map options (λ option. option.now) in
    let within : place < length (words_now options) = omega (arith, many, below) in
    let before = take place (words_now options) in
    let shown : List (List ℕ) → List ℕ = λ words. flat_map (λ option. shown_option option) words in
    let next : take (place + 1) (words_now options) ≡ before ++ own ∷ [] =
    rw (add-one place, sym (get_or-map (λ option. option.now) options place past))
    (take-suc (words_now options) place past.now within) in
    let pieces : third ≡ (((old ++ shown before) ++ codes " [") ++ own) ++ codes "]" =
    rw (three, two, one, is) refl in
    pieces ∙ joined_option old (shown before) own
    ∙ ap (λ (l : List ℕ). old ++ l) (sym (ap shown next ∙ flat_map-append (λ option. shown_option option) before (own ∷ [])))
  where
    joined_option : (old shown own : List ℕ) → (((old ++ shown) ++ codes " [") ++ own) ++ codes "]"
        ≡ old ++ (shown ++ (((codes " [" ++ own) ++ codes "]") ++ []))
    joined_option old shown own = simp append_assoc refl

blanks_behind : (first second shown : List ℕ) → second ≡ first ++ shown → length second - length first ≡ length shown
blanks_behind first second shown is =
    let longer = ap (λ (l : List ℕ). length l) is ∙ length-append first shown in
    omega (arith, longer)

-- five additions make a line
joined : (old part shown gap blanks says : List ℕ)
    → ((((old ++ part) ++ shown) ++ gap) ++ blanks) ++ says ≡ old ++ (part ++ shown ++ gap ++ blanks ++ says)
joined old part shown gap blanks says = simp append_assoc refl

pub row_added : (row : Row) (old first second third fourth last before behind blanks says : List ℕ)
    → first ≡ old ++ codes "\n  " → second ≡ first ++ shown_form row.form → third ≡ second ++ codes "  "
    → fourth ≡ third ++ blanks → last ≡ fourth ++ says → before ≡ first → behind ≡ second
    → blanks ≡ drop (length behind - length before) BLANKS.now → says ≡ row.says
    → last ≡ old ++ row_line row
row_added row old first second third fourth last before behind blanks says one two three four five at to space_is text =
    let width : length behind - length before ≡ length (shown_form row.form) =
    ap₂ (λ (l m : List ℕ). length l - length m) to at ∙ blanks_behind first second (shown_form row.form) two in
    let gap : blanks ≡ drop (length (shown_form row.form)) BLANKS.now =
    space_is ∙ ap (λ (n : ℕ). drop n BLANKS.now) width in
    let added : last ≡ ((((old ++ codes "\n  ") ++ shown_form row.form) ++ codes "  ") ++ blanks) ++ says =
    rw (five, four, three, two, one) refl in
    added ∙ ap₂ (λ (l m : List ℕ). ((((old ++ codes "\n  ") ++ shown_form row.form) ++ codes "  ") ++ l) ++ m) gap text
    ∙ joined old (codes "\n  ") (shown_form row.form) (codes "  ") (drop (length (shown_form row.form)) BLANKS.now) row.says

-- the lines of all items of a list that the code holds
pub all_lines : {A B : Type 0} (line : B → List ℕ) (f : A → B) (held : List A) (made : List B) (k : ℕ)
    → map f held ≡ made → length held ≤ k → flat_map (λ x. line (f x)) (take k held) ≡ flat_map line made
all_lines line f held made k are end =
    ap (λ l. flat_map (λ x. line (f x)) l) (take_all k held end) ∙ sym (flat_map-map line f held)
    ∙ ap (λ l. flat_map line l) are

pub help_ends : (held : List HeldRow) (k : ℕ) (start text all : List ℕ) → map row_now held ≡ rows → length held ≤ k
    → start ≡ HELP_HEAD.now → text ≡ start ++ flat_map (λ row. row_line (row_now row)) (take k held)
    → all ≡ text ++ HELP_TAIL.now → all ≡ help_text
unfolding help_text
help_ends held k start text all are_rows end begin is more =
    let lines = all_lines row_line row_now held rows k are_rows end in
    more ∙ ap (λ (t : List ℕ). t ++ HELP_TAIL.now) (is ∙ ap₂ (λ (l m : List ℕ). l ++ m) begin lines)

pub page_ends : (word start first second third last : List ℕ) → start ≡ word → first ≡ start ++ codes "\n"
    → second ≡ first ++ flat_map (line_of word) rows → third ≡ second ++ codes "\n\n"
    → last ≡ third ++ flat_map (note_of word) notes → last ≡ page_text word
unfolding page_text
page_ends word start first second third last one two three four five = rw (five, four, three, two, one) refl

-- ---- a row of the table has its line
cut_behind : (head lines part blanks says later tail : List ℕ)
    → head ++ (lines ++ (part ++ blanks ++ says ++ later)) ++ tail
    ≡ (head ++ lines) ++ part ++ (blanks ++ says ++ later ++ tail)
cut_behind head lines part blanks says later tail = simp append_assoc refl

shown_in : (line : Row → List ℕ) (head tail : List ℕ) (listed : List Task) (k : ℕ) (past : Task)
    → k < length listed → line (row_of (get_or listed k past)) ≡ row_line (row_of (get_or listed k past))
    → Shows (head ++ flat_map line (map row_of listed) ++ tail) (get_or listed k past)
shown_in line head tail listed k past below whole =
    let task = get_or listed k past in
    let line_at : Task → List ℕ = λ t. line (row_of t) in
    let before = flat_map line_at (take k listed) in
    let later = flat_map line_at (drop (suc k) listed) in
    let cut : listed ≡ take k listed ++ task ∷ drop (suc k) listed =
    sym (take-append-drop k listed) ∙ ap (λ l. take k listed ++ l) (drop-cons listed k past below) in
    let lines : flat_map line (map row_of listed) ≡ before ++ (row_line (row_of task) ++ later) =
    flat_map-map line row_of listed ∙ ap (λ l. flat_map line_at l) cut
    ∙ flat_map-append line_at (take k listed) (task ∷ drop (suc k) listed)
    ∙ ap (λ (l : List ℕ). before ++ (l ++ later)) whole in
    let form = form_of task in
    let blanks = drop (length (shown_form form)) BLANKS.now in
    record {
      before = head ++ before;
      after = blanks ++ (row_of task).says ++ later ++ tail;
      stands = ap (λ (l : List ℕ). head ++ l ++ tail) lines
          ∙ cut_behind head before (shown_part form) blanks (row_of task).says later tail;
    }

pub each_shown : (task : Task) → Shows help_text task
unfolding help_text
each_shown task =
    let listed = each_listed task in
    subst (λ (t : Task). Shows help_text t) listed.2
    (shown_in row_line HELP_HEAD.now HELP_TAIL.now tasks listed.0 first_task listed.1 refl)

-- ---- and its page
line_whole : (word : List ℕ) (row : Row) → begins word row.form ≡ true → line_of word row ≡ row_line row
line_whole word row is = chosen (begins word row.form) is
  where
    chosen : (b : Bool) → b ≡ true → (if b then row_line row else []) ≡ row_line row
    chosen true holds = refl
    chosen false holds = cc

pub page_shows : (task : Task) (word : List ℕ) → begins word (form_of task) ≡ true → Shows (page_text word) task
unfolding page_text
page_shows task word is =
    let listed = each_listed task in
    let head = word ++ codes "\n" in
    let tail = codes "\n\n" ++ flat_map (note_of word) notes in
    let there = subst (λ (t : Task). begins word (form_of t) ≡ true) (sym listed.2) is in
    let shown = shown_in (line_of word) head tail tasks listed.0 first_task listed.1
    (line_whole word (row_of (get_or tasks listed.0 first_task)) there) in
    let whole : head ++ flat_map (line_of word) rows ++ tail ≡ page_text word =
    sym (append_assoc (head ++ flat_map (line_of word) rows) (codes "\n\n") (flat_map (note_of word) notes)) in
    subst (λ (text : List ℕ). Shows text task) whole
    (subst (λ (t : Task). Shows (head ++ flat_map (line_of word) rows ++ tail) t) listed.2 shown)

-- the word with which a form begins is one of those of the commands
abbrev page_at : List Slot → Bool
page_at (Word own ∷ places) = stands_in command_words own
page_at places = true

abbrev has_page : Form → Bool
has_page form = page_at form.places

all_have_pages : list_all (λ task. has_page (form_of task)) tasks ≡ true
all_have_pages = refl

page_of_first : (places : List Slot) (word : List ℕ) → page_at places ≡ true → begins_at word places ≡ true
    → stands_in command_words word ≡ true
page_of_first [] word page is = cc
page_of_first (Word own ∷ places) word page is =
    subst (λ (w : List ℕ). stands_in command_words w ≡ true) ((bytes_eq-Decides own word).0 is) page
page_of_first (File name ∷ places) word page is = cc
page_of_first (LoneFile name ∷ places) word page is = cc
page_of_first (LibraryFile name kept ∷ places) word page is = cc
page_of_first (OneOf name words ∷ places) word page is = cc
page_of_first (Name name ∷ places) word page is = cc

pub has_its_page : (task : Task) (word : List ℕ) → begins word (form_of task) ≡ true
    → stands_in command_words word ≡ true
has_its_page task word is =
    let listed = each_listed task in
    let page = one_of_all (λ t. has_page (form_of t)) tasks listed.0 all_have_pages listed.1 in
    page_of_first (form_of task).places word (subst (λ (t : Task). has_page (form_of t) ≡ true) listed.2 page) is
