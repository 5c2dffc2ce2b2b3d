-- Words and forms, place by place.
use Rattle.std.proofs.Common.{◌≡◌, ◌≢◌, ℕ, suc, ◌+◌, ◌-◌, ◌<◌, ◌≤◌, List, [], ◌∷◌, ◌++◌, length, map, take, drop}
use Rattle.std.proofs.Common.{get_or, refl, sym, subst}
use Rattle.std.proofs.Common.{ap, codes}
use Rattle.std.proofs.Common.{◌∙◌, ◌⊎◌, inl, inr, arith, append-nil, append_assoc, add-one, String, string_bytes}
use Rattle.std.proofs.Common.{Global}
use Rattle.std.proofs.Common.{Bool, true, false, not, bytes_eq, Bor}
use Rattle.std.proofs.lemmas.Slice.Eq.{bytes_eq-Decides}
use Rattle.std.proofs.Math.Seq.{drop-cons, take_all}
use Rattle.std.proofs.lemmas.List.{drop-map, length-drop, length-map}
use Rattle.si_base.specs.Words.{is_signal_name}
use Rattle.si_words.specs.Loops.Reads.{words_now}
use Rattle.si_words.specs.Names.{stands_in}
use Rattle.si_commands.specs.Form.{Slot, Word, File, LoneFile, LibraryFile, OneOf, Name, Tail, Nothing, MoreFiles}
use Rattle.si_commands.specs.Form.{MorePairs, Options}
use Rattle.si_commands.specs.Form.{Fit, FitBehind, Form, HasParts, Fits, are_some, choice_count, file_count, filled}
use Rattle.si_commands.specs.Form.{more_choices, more_files}
use Rattle.si_commands.specs.Loops.Filled.{IsFilled, Later}
use Rattle.si_commands.specs.Form.{words_of}
use Rattle.si_commands.specs.Loops.Reads.{slot_now, slots_now}
use Rattle.si_commands.specs.declared.form.Slot.{Slot as HeldSlot}

-- ---- as many words as places at least
length_filled : (places : List Slot) (tail : Tail) (files choices : List (List ℕ)) → Fits places tail files choices
    → length places ≤ length (filled places tail files choices)
length_filled [] tail files choices fit = omega arith
length_filled (Word word ∷ places) tail files choices fit =
    let fewer = length_filled places tail files choices fit in
    omega (arith, fewer)
length_filled (File name ∷ places) tail [] choices fit = absurd fit
length_filled (File name ∷ places) tail (file ∷ files) choices fit =
    let fewer = length_filled places tail files choices fit in
    omega (arith, fewer)
length_filled (LoneFile name ∷ places) tail [] choices fit = absurd fit
length_filled (LoneFile name ∷ places) tail (file ∷ files) choices fit =
    let fewer = length_filled places tail files choices fit.1 in
    omega (arith, fewer)
length_filled (LibraryFile name kept ∷ places) tail [] choices fit = absurd fit
length_filled (LibraryFile name kept ∷ places) tail (file ∷ files) choices fit =
    let fewer = length_filled places tail files choices fit.1 in
    omega (arith, fewer)
length_filled (OneOf name words ∷ places) tail files [] fit = absurd fit
length_filled (OneOf name words ∷ places) tail files (choice ∷ choices) fit =
    let fewer = length_filled places tail files choices fit.1 in
    omega (arith, fewer)
length_filled (Name name ∷ places) tail files [] fit = absurd fit
length_filled (Name name ∷ places) tail files (choice ∷ choices) fit =
    let fewer = length_filled places tail files choices fit.1 in
    omega (arith, fewer)

pub too_few_words : (places : List Slot) (tail : Tail) (words files choices : List (List ℕ))
    → length words < length places → HasParts places tail words files choices → ⊥
too_few_words places tail words files choices few has =
    let many = length_filled places tail files choices has.1 in
    let same = ap (λ (l : List (List ℕ)). length l) has.0 in
    omega (arith, few, many, same)

-- ---- as many files as places for files, and as many choices, with those behind the places
pub record IsCount (least more count : ℕ) : Type 0 where
  pub low : least ≤ count
  pub high : count ≤ least + more

one_more : (least more count : ℕ) → IsCount least more count → IsCount (1 + least) more (suc count)
one_more least more count is = record { low = omega (arith, is.low); high = omega (arith, is.high) }

files_left : (tail : Tail) (files choices : List (List ℕ)) → FitBehind tail files choices
    → IsCount 0 (more_files tail) (length files)
files_left Nothing [] [] fit = record { low = omega arith; high = omega arith }
files_left Nothing [] (choice ∷ choices) fit = absurd fit
files_left Nothing (file ∷ files) choices fit = absurd fit
files_left (MoreFiles most) files [] fit = record { low = omega arith; high = omega (arith, fit) }
files_left (MoreFiles most) files (choice ∷ choices) fit = absurd fit
files_left (MorePairs most) files [] fit = record { low = omega arith; high = omega (arith, fit.0) }
files_left (MorePairs most) files (choice ∷ choices) fit = absurd fit
files_left (Options options) [] choices fit = record { low = omega arith; high = omega arith }
files_left (Options options) (file ∷ files) choices fit = absurd fit

pub count_of_files : (places : List Slot) (tail : Tail) (files choices : List (List ℕ)) → Fits places tail files choices
    → IsCount (file_count places) (more_files tail) (length files)
count_of_files [] tail files choices fit = files_left tail files choices fit
count_of_files (Word word ∷ places) tail files choices fit = count_of_files places tail files choices fit
count_of_files (File name ∷ places) tail [] choices fit = absurd fit
count_of_files (File name ∷ places) tail (file ∷ files) choices fit =
    one_more _ _ _ (count_of_files places tail files choices fit)
count_of_files (LoneFile name ∷ places) tail [] choices fit = absurd fit
count_of_files (LoneFile name ∷ places) tail (file ∷ files) choices fit =
    one_more _ _ _ (count_of_files places tail files choices fit.1)
count_of_files (LibraryFile name kept ∷ places) tail [] choices fit = absurd fit
count_of_files (LibraryFile name kept ∷ places) tail (file ∷ files) choices fit =
    one_more _ _ _ (count_of_files places tail files choices fit.1)
count_of_files (OneOf name words ∷ places) tail files [] fit = absurd fit
count_of_files (OneOf name words ∷ places) tail files (choice ∷ choices) fit =
    count_of_files places tail files choices fit.1
count_of_files (Name name ∷ places) tail files [] fit = absurd fit
count_of_files (Name name ∷ places) tail files (choice ∷ choices) fit =
    count_of_files places tail files choices fit.1

-- of a form, as the code holds its files
pub counted_files : (form : Form) (files : List (Bor (List ℕ))) (choices : List (List ℕ))
    → Fit form (words_now files) choices → IsCount (file_count form.places) (more_files form.tail) (length files)
counted_files form files choices fit =
    let many = count_of_files form.places form.tail (words_now files) choices fit in
    let same = length-map files (λ name. name.now) in
    record { low = omega (arith, many.low, same); high = omega (arith, many.high, same) }

-- no more options are given than there are
few_given : (options words : List (List ℕ)) → are_some options words ≡ true → length words ≤ length options
few_given [] [] some = omega arith
few_given [] (word ∷ words) some = cc
few_given (option ∷ options) [] some = omega arith
few_given (option ∷ options) (word ∷ words) some =
    first (bytes_eq word option) refl (few_given options words) (few_given options (word ∷ words))
  where
    first : (b : Bool) → bytes_eq word option ≡ b → (are_some options words ≡ true → length words ≤ length options)
        → (are_some options (word ∷ words) ≡ true → suc (length words) ≤ length options)
        → suc (length words) ≤ suc (length options)
    first true is taken skipped = (let few = taken (rw is at some) in omega (arith, few))
    first false is taken skipped = (let few = skipped (rw is at some) in omega (arith, few))

choices_left : (tail : Tail) (files choices : List (List ℕ)) → FitBehind tail files choices
    → IsCount 0 (more_choices tail) (length choices)
choices_left Nothing [] [] fit = record { low = omega arith; high = omega arith }
choices_left Nothing [] (choice ∷ choices) fit = absurd fit
choices_left Nothing (file ∷ files) choices fit = absurd fit
choices_left (MoreFiles most) files [] fit = record { low = omega arith; high = omega arith }
choices_left (MoreFiles most) files (choice ∷ choices) fit = absurd fit
choices_left (MorePairs most) files [] fit = record { low = omega arith; high = omega arith }
choices_left (MorePairs most) files (choice ∷ choices) fit = absurd fit
choices_left (Options options) [] choices fit =
    let few = few_given options choices fit in
    record { low = omega arith; high = omega (arith, few) }
choices_left (Options options) (file ∷ files) choices fit = absurd fit

pub count_of_choices : (places : List Slot) (tail : Tail) (files choices : List (List ℕ)) → Fits places tail files choices
    → IsCount (choice_count places) (more_choices tail) (length choices)
count_of_choices [] tail files choices fit = choices_left tail files choices fit
count_of_choices (Word word ∷ places) tail files choices fit = count_of_choices places tail files choices fit
count_of_choices (File name ∷ places) tail [] choices fit = absurd fit
count_of_choices (File name ∷ places) tail (file ∷ files) choices fit = count_of_choices places tail files choices fit
count_of_choices (LoneFile name ∷ places) tail [] choices fit = absurd fit
count_of_choices (LoneFile name ∷ places) tail (file ∷ files) choices fit = count_of_choices places tail files choices fit.1
count_of_choices (LibraryFile name kept ∷ places) tail [] choices fit = absurd fit
count_of_choices (LibraryFile name kept ∷ places) tail (file ∷ files) choices fit =
    count_of_choices places tail files choices fit.1
count_of_choices (OneOf name words ∷ places) tail files [] fit = absurd fit
count_of_choices (OneOf name words ∷ places) tail files (choice ∷ choices) fit =
    one_more _ _ _ (count_of_choices places tail files choices fit.1)
count_of_choices (Name name ∷ places) tail files [] fit = absurd fit
count_of_choices (Name name ∷ places) tail files (choice ∷ choices) fit =
    one_more _ _ _ (count_of_choices places tail files choices fit.1)

-- of a form, as the code holds its choices
pub counted_choices : (form : Form) (files : List (List ℕ)) (choices : List (Bor (List ℕ)))
    → Fit form files (words_now choices) → IsCount (choice_count form.places) (more_choices form.tail) (length choices)
counted_choices form files choices fit =
    let many = count_of_choices form.places form.tail files (words_now choices) fit in
    let same = length-map choices (λ name. name.now) in
    record { low = omega (arith, many.low, same); high = omega (arith, many.high, same) }

-- ---- words of a form that begins with a place

-- the word may stand in the place, before the others
abbrev pub Stands : Slot → (word : List ℕ) → (others : List (List ℕ)) → Type 0
Stands (Word own) word others = word ≡ own
Stands (File name) word others = Unit {0}
Stands (LoneFile name) word others = word ≢ codes "--help"
Stands (LibraryFile name kept) word others = (stands_in kept word ≡ false) ⊎ (others ≡ [])
Stands (OneOf name words) word others = stands_in words word ≡ true
Stands (Name name) word others = is_signal_name word ≡ true

-- the files, and the choices, behind what the word of the place gives
abbrev pub with_file : Slot → (word : List ℕ) → (files : List (List ℕ)) → List (List ℕ)
with_file (Word own) word files = files
with_file (File name) word files = word ∷ files
with_file (LoneFile name) word files = word ∷ files
with_file (LibraryFile name kept) word files = word ∷ files
with_file (OneOf name words) word files = files
with_file (Name name) word files = files

abbrev pub with_choice : Slot → (word : List ℕ) → (choices : List (List ℕ)) → List (List ℕ)
with_choice (Word own) word choices = choices
with_choice (File name) word choices = choices
with_choice (LoneFile name) word choices = choices
with_choice (LibraryFile name kept) word choices = choices
with_choice (OneOf name words) word choices = word ∷ choices
with_choice (Name name) word choices = word ∷ choices

-- the word stands in the place, and the others have the rest of the form
pub record Begins (slot : Slot) (places : List Slot) (tail : Tail) (word : List ℕ)
    (words files choices : List (List ℕ)) : Type 0 where
  pub later_files : List (List ℕ)
  pub later_choices : List (List ℕ)
  pub files_are : files ≡ with_file slot word later_files
  pub choices_are : choices ≡ with_choice slot word later_choices
  pub stands : Stands slot word words
  pub has : HasParts places tail words later_files later_choices

pub begins : (slot : Slot) (places : List Slot) (tail : Tail) (word : List ℕ) (words files choices : List (List ℕ))
    → HasParts (slot ∷ places) tail (word ∷ words) files choices → Begins slot places tail word words files choices
begins (Word own) places tail word words files choices has =
    let same = has.0 in
    let heads : word ≡ own = cc in
    let tails : words ≡ filled places tail files choices = cc in
    record {
      later_files = files;
      later_choices = choices;
      files_are = refl;
      choices_are = refl;
      stands = heads;
      has = (tails, has.1);
    }
begins (File name) places tail word words [] choices has = absurd has.1
begins (File name) places tail word words (file ∷ files) choices has =
    let same = has.0 in
    let heads : file ≡ word = cc in
    let tails : words ≡ filled places tail files choices = cc in
    record {
      later_files = files;
      later_choices = choices;
      files_are = ap (λ (w : List ℕ). w ∷ files) heads;
      choices_are = refl;
      stands = tt;
      has = (tails, has.1);
    }
begins (LoneFile name) places tail word words [] choices has = absurd has.1
begins (LoneFile name) places tail word words (file ∷ files) choices has =
    let same = has.0 in
    let heads : file ≡ word = cc in
    let tails : words ≡ filled places tail files choices = cc in
    record {
      later_files = files;
      later_choices = choices;
      files_are = ap (λ (w : List ℕ). w ∷ files) heads;
      choices_are = refl;
      stands = rw (sym heads) has.1.0;
      has = (tails, has.1.1);
    }
begins (LibraryFile name kept) places tail word words [] choices has = absurd has.1
begins (LibraryFile name kept) places tail word words (file ∷ files) choices has =
    let same = has.0 in
    let heads : file ≡ word = cc in
    let tails : words ≡ filled places tail files choices = cc in
    record {
      later_files = files;
      later_choices = choices;
      files_are = ap (λ (w : List ℕ). w ∷ files) heads;
      choices_are = refl;
      stands = elim has.1.0 [
        | inl other ↦ inl (subst (λ w. stands_in kept w ≡ false) heads other)
        | inr last ↦ inr (tails ∙ last)
      ];
      has = (tails, has.1.1);
    }
begins (OneOf name own) places tail word words files [] has = absurd has.1
begins (OneOf name own) places tail word words files (choice ∷ choices) has =
    let same = has.0 in
    let heads : choice ≡ word = cc in
    let tails : words ≡ filled places tail files choices = cc in
    record {
      later_files = files;
      later_choices = choices;
      files_are = refl;
      choices_are = ap (λ (w : List ℕ). w ∷ choices) heads;
      stands = rw (sym heads) has.1.0;
      has = (tails, has.1.1);
    }
begins (Name name) places tail word words files [] has = absurd has.1
begins (Name name) places tail word words files (choice ∷ choices) has =
    let same = has.0 in
    let heads : choice ≡ word = cc in
    let tails : words ≡ filled places tail files choices = cc in
    record {
      later_files = files;
      later_choices = choices;
      files_are = refl;
      choices_are = ap (λ (w : List ℕ). w ∷ choices) heads;
      stands = rw (sym heads) has.1.0;
      has = (tails, has.1.1);
    }

-- and the other way round
pub with_first : (slot : Slot) (places : List Slot) (tail : Tail) (word : List ℕ)
    (words files choices : List (List ℕ)) → Stands slot word words → HasParts places tail words files choices
    → HasParts (slot ∷ places) tail (word ∷ words) (with_file slot word files) (with_choice slot word choices)
with_first (Word own) places tail word words files choices stands has = (cc (stands, has.0), has.1)
with_first (File name) places tail word words files choices stands has =
    (ap (λ (l : List (List ℕ)). word ∷ l) has.0, has.1)
with_first (LoneFile name) places tail word words files choices stands has =
    (ap (λ (l : List (List ℕ)). word ∷ l) has.0, (stands, has.1))
with_first (LibraryFile name kept) places tail word words files choices stands has =
    (ap (λ (l : List (List ℕ)). word ∷ l) has.0, (alone stands, has.1))
  where
    alone : (stands_in kept word ≡ false) ⊎ (words ≡ [])
        → (stands_in kept word ≡ false) ⊎ (filled places tail files choices ≡ [])
    alone (inl other) = inl other
    alone (inr last) = inr (sym has.0 ∙ last)
with_first (OneOf name own) places tail word words files choices stands has =
    (ap (λ (l : List (List ℕ)). word ∷ l) has.0, (stands, has.1))
with_first (Name name) places tail word words files choices stands has =
    (ap (λ (l : List (List ℕ)). word ∷ l) has.0, (stands, has.1))

-- no words are too few
pub not_without_words : (slot : Slot) (places : List Slot) (tail : Tail) (files choices : List (List ℕ))
    → HasParts (slot ∷ places) tail [] files choices → ⊥
not_without_words slot places tail files choices has =
    too_few_words (slot ∷ places) tail [] files choices (omega arith) has

-- ---- the places before this one are filled, with these files and choices
pub none_filled : (places : List Slot) (tail : Tail) (words : List (List ℕ)) → IsFilled places tail words [] [] 0
none_filled places tail words = record {
  later = λ files choices has. record {
    files_left = files;
    choices_left = choices;
    files_are = refl;
    choices_are = refl;
    has = has;
  };
  with_later = λ files choices has. has;
}

files_behind : (slot : Slot) (word : List ℕ) (files later : List (List ℕ))
    → (files ++ with_file slot word []) ++ later ≡ files ++ with_file slot word later
files_behind (Word own) word files later = append_assoc files [] later
files_behind (File name) word files later = append_assoc files (word ∷ []) later
files_behind (LoneFile name) word files later = append_assoc files (word ∷ []) later
files_behind (LibraryFile name kept) word files later = append_assoc files (word ∷ []) later
files_behind (OneOf name own) word files later = append_assoc files [] later
files_behind (Name name) word files later = append_assoc files [] later

choices_behind : (slot : Slot) (word : List ℕ) (choices later : List (List ℕ))
    → (choices ++ with_choice slot word []) ++ later ≡ choices ++ with_choice slot word later
choices_behind (Word own) word choices later = append_assoc choices [] later
choices_behind (File name) word choices later = append_assoc choices [] later
choices_behind (LoneFile name) word choices later = append_assoc choices [] later
choices_behind (LibraryFile name kept) word choices later = append_assoc choices [] later
choices_behind (OneOf name own) word choices later = append_assoc choices (word ∷ []) later
choices_behind (Name name) word choices later = append_assoc choices (word ∷ []) later

module _ (places later : List Slot) (tail : Tail) (words others files choices : List (List ℕ)) (place : ℕ)
    (slot : Slot) (word : List ℕ) (filled : IsFilled places tail words files choices place)
    (here : drop place places ≡ slot ∷ later) (at : drop place words ≡ word ∷ others) where
  begins_here : (all_files all_choices : List (List ℕ)) → HasParts places tail words all_files all_choices
      → (left : Later places tail words files choices place all_files all_choices)
      × Begins slot later tail word others left.files_left left.choices_left
  begins_here all_files all_choices has =
      let left = filled.later all_files all_choices has in
      let there : HasParts (slot ∷ later) tail (word ∷ others) left.files_left left.choices_left =
      rw (here, at) at left.has in
      (left, begins slot later tail word others left.files_left left.choices_left there)

  pub other_word : (Stands slot word others → ⊥) → (all_files all_choices : List (List ℕ))
      → HasParts places tail words all_files all_choices → ⊥
  other_word not all_files all_choices has = not (begins_here all_files all_choices has).1.stands

  pub place_filled : Stands slot word others → drop (place + 1) places ≡ later → drop (place + 1) words ≡ others
      → IsFilled places tail words (files ++ with_file slot word []) (choices ++ with_choice slot word []) (place + 1)
  place_filled stands next_slot next_word = record {
    later = λ all_files all_choices has.
        let found = begins_here all_files all_choices has in
        let left = found.0 in
        let first = found.1 in
        record {
          files_left = first.later_files;
          choices_left = first.later_choices;
          files_are = left.files_are ∙ ap (λ (l : List (List ℕ)). files ++ l) first.files_are
              ∙ sym (files_behind slot word files first.later_files);
          choices_are = left.choices_are ∙ ap (λ (l : List (List ℕ)). choices ++ l) first.choices_are
              ∙ sym (choices_behind slot word choices first.later_choices);
          has = rw (next_slot, next_word) first.has;
        };
    with_later = λ files_left choices_left has.
        let there : HasParts later tail others files_left choices_left = rw (next_slot, next_word) at has in
        let all = with_first slot later tail word others files_left choices_left stands there in
        rw (files_behind slot word files files_left, choices_behind slot word choices choices_left)
        (filled.with_later (with_file slot word files_left) (with_choice slot word choices_left) (rw (here, at) all));
  }

-- by the kinds of places
module _ (places later : List Slot) (tail : Tail) (words others files choices : List (List ℕ)) (place : ℕ)
    (word : List ℕ) (filled : IsFilled places tail words files choices place) where
  pub word_filled : (own : List ℕ) → drop place places ≡ Word own ∷ later → drop place words ≡ word ∷ others
      → drop (place + 1) places ≡ later → drop (place + 1) words ≡ others → word ≡ own
      → IsFilled places tail words files choices (place + 1)
  word_filled own here at next_slot next_word same = rw (append-nil files, append-nil choices) at
      (place_filled places later tail words others files choices place (Word own) word filled here at same next_slot
      next_word)

  pub file_filled : (name : List ℕ) → drop place places ≡ File name ∷ later → drop place words ≡ word ∷ others
      → drop (place + 1) places ≡ later → drop (place + 1) words ≡ others
      → IsFilled places tail words (files ++ word ∷ []) choices (place + 1)
  file_filled name here at next_slot next_word = rw (append-nil choices) at
      (place_filled places later tail words others files choices place (File name) word filled here at tt next_slot
      next_word)

  pub lone_filled : (name : List ℕ) → drop place places ≡ LoneFile name ∷ later → drop place words ≡ word ∷ others
      → drop (place + 1) places ≡ later → drop (place + 1) words ≡ others → word ≢ codes "--help"
      → IsFilled places tail words (files ++ word ∷ []) choices (place + 1)
  lone_filled name here at next_slot next_word stands = rw (append-nil choices) at
      (place_filled places later tail words others files choices place (LoneFile name) word filled here at stands
      next_slot next_word)

  pub library_filled : (name : List ℕ) (kept : List (List ℕ)) → drop place places ≡ LibraryFile name kept ∷ later
      → drop place words ≡ word ∷ others → drop (place + 1) places ≡ later → drop (place + 1) words ≡ others
      → (stands_in kept word ≡ false) ⊎ (others ≡ [])
      → IsFilled places tail words (files ++ word ∷ []) choices (place + 1)
  library_filled name kept here at next_slot next_word stands = rw (append-nil choices) at
      (place_filled places later tail words others files choices place (LibraryFile name kept) word filled here at stands
      next_slot next_word)

  pub choice_filled : (name : List ℕ) (listed : List (List ℕ)) → drop place places ≡ OneOf name listed ∷ later
      → drop place words ≡ word ∷ others → drop (place + 1) places ≡ later → drop (place + 1) words ≡ others
      → stands_in listed word ≡ true → IsFilled places tail words files (choices ++ word ∷ []) (place + 1)
  choice_filled name listed here at next_slot next_word stands = rw (append-nil files) at
      (place_filled places later tail words others files choices place (OneOf name listed) word filled here at stands
      next_slot next_word)

  pub name_filled : (name : List ℕ) → drop place places ≡ Name name ∷ later → drop place words ≡ word ∷ others
      → drop (place + 1) places ≡ later → drop (place + 1) words ≡ others
      → is_signal_name word ≡ true → IsFilled places tail words files (choices ++ word ∷ []) (place + 1)
  name_filled name here at next_slot next_word stands = rw (append-nil files) at
      (place_filled places later tail words others files choices place (Name name) word filled here at stands
      next_slot next_word)

-- ---- what stands at a place of a list, and what comes later
pub at_place : {A B : Type 0} (f : A → B) (xs : List A) (place : ℕ) (x : A) → place < length xs
    → drop place (map f xs) ≡ f (get_or xs place x) ∷ drop (place + 1) (map f xs)
at_place f xs place x below = rw (add-one place, drop-map f place xs, drop-map f (suc place) xs)
    (ap (λ ys. map f ys) (drop-cons xs place x below))

pub slot_at : (form : List HeldSlot) (place : ℕ) (past slot : HeldSlot) → place < length form
    → get_or form place past ≡ slot
    → drop place (slots_now form) ≡ slot_now slot ∷ drop (place + 1) (slots_now form)
slot_at form place past slot below is =
    at_place slot_now form place past below ∙ ap (λ s. slot_now s ∷ drop (place + 1) (slots_now form)) is

pub word_at : (words : List (String Global)) (place : ℕ) (word : String Global) (bytes : List ℕ)
    → place < length words → word ≡ get_or words place word → bytes ≡ string_bytes word
    → drop place (words_of words) ≡ bytes ∷ drop (place + 1) (words_of words)
word_at words place word bytes below is same =
    at_place (λ w. string_bytes w) words place word below
    ∙ ap (λ b. b ∷ drop (place + 1) (words_of words)) (ap (λ w. string_bytes w) (sym is) ∙ sym same)

-- ---- whether two words are equal, as the code tests it
pub word_same : (x y : List ℕ) (same : Bool) → same ≡ bytes_eq x y → same ≡ true → x ≡ y
word_same x y same is yes_same = (bytes_eq-Decides x y).0 (sym is ∙ yes_same)

pub word_other : (x y : List ℕ) (same : Bool) → same ≡ bytes_eq x y → same ≡ false → x ≢ y
word_other x y same is no_same equal =
    let yes_same = (bytes_eq-Decides x y).1 equal in
    cc

pub words_differ : (x y : List ℕ) (differs : Bool) → differs ≡ not (bytes_eq x y) → differs ≡ true → x ≢ y
words_differ x y differs is yes_differ same =
    let equal = (bytes_eq-Decides x y).1 same in
    cc

pub words_same : (x y : List ℕ) (differs : Bool) → differs ≡ not (bytes_eq x y) → differs ≡ false → x ≡ y
words_same x y differs is no_differ = (bytes_eq-Decides x y).0 (equal_of (bytes_eq x y) (sym is ∙ no_differ))
  where
    equal_of : (b : Bool) → not b ≡ false → b ≡ true
    equal_of true at = refl
    equal_of false at = cc

pub true_not_false : true ≡ false → ⊥
true_not_false same = cc

-- ---- whether a word is kept for what stands behind it, as the code tests it
pub words_behind : (words : List (String Global)) (place : ℕ)
    → words_of (take (length words - place) (drop place words)) ≡ drop place (words_of words)
words_behind words place =
    let many = length-drop place words in
    let all : take (length words - place) (drop place words) ≡ drop place words =
    take_all (length words - place) (drop place words) (omega (arith, many)) in
    ap words_of all ∙ sym (drop-map (λ w. string_bytes w) place words)

module _ (word : List ℕ) (words : List (String Global)) (place : ℕ) where
  abbrev later : List (List ℕ)
  later = words_of (take (length words - place) (drop place words))

  pub not_a_library : (kept : List (List ℕ)) → (stands_in kept word ≡ true) × (later ≢ [])
      → (stands_in kept word ≡ false) ⊎ (drop place (words_of words) ≡ []) → ⊥
  not_a_library kept is (inl other) = true_not_false (sym is.0 ∙ other)
  not_a_library kept is (inr last) = is.1 (words_behind words place ∙ last)

  pub is_a_library : (kept : List (List ℕ)) → (stands_in kept word ≡ false) ⊎ (later ≡ [])
      → (stands_in kept word ≡ false) ⊎ (drop place (words_of words) ≡ [])
  is_a_library kept (inl other) = inl other
  is_a_library kept (inr last) = inr (sym (words_behind words place) ∙ last)
