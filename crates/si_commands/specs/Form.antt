-- (command) The forms of commands, and the words that have them.
use Rattle.std.specs.Prelude.{◌≡◌, ◌≢◌, ℕ, ◌+◌, ◌%◌, ◌≤◌, ◌⊎◌, Bool, true, false, if◌then◌else◌}
use Rattle.std.specs.Prelude.{List, []}
use Rattle.std.specs.Prelude.{◌∷◌, length, map, bytes_eq, codes, String, string_bytes}
use Rattle.std.specs.declared.alloc.Global.{Global}
use Rattle.si_base.specs.Words.{is_signal_name}
use Rattle.si_words.specs.Names.{stands_in}

-- the words of a line, each by its bytes
abbrev pub words_of : List (String Global) → List (List ℕ)
words_of words = map (λ w. string_bytes w) words

-- a place in the form of a command: for this word; for the name of a file, which where it stands
-- alone isn't `--help`, and where it is that of a library, behind which words stand, isn't one of
-- those that have a meaning of their own there; for one of these words; or for a name of a signal.
-- The help gives files and choices these names
pub data Slot : Type 0 where
  Word : List ℕ → Slot
  File : List ℕ → Slot
  LoneFile : List ℕ → Slot
  LibraryFile : List ℕ → (kept : List (List ℕ)) → Slot
  OneOf : List ℕ → List (List ℕ) → Slot
  Name : List ℕ → Slot

-- what may stand behind the places: nothing; the names of more files, so many at most; the same in
-- pairs; or options, which are words that may be given
pub data Tail : Type 0 where
  Nothing : Tail
  MoreFiles : ℕ → Tail
  MorePairs : ℕ → Tail
  Options : List (List ℕ) → Tail

pub record Form : Type 0 where
  pub places : List Slot
  pub tail : Tail

-- ---- behind the places

-- the words are some of the options, in their order, each given once
abbrev pub are_some : (options words : List (List ℕ)) → Bool
are_some [] [] = true
are_some [] (word ∷ words) = false
are_some (option ∷ options) [] = true
are_some (option ∷ options) (word ∷ words) =
    if bytes_eq word option then are_some options words else are_some options (word ∷ words)

-- the words that stand there, where these files and choices are left
abbrev pub behind : Tail → (files choices : List (List ℕ)) → List (List ℕ)
behind Nothing files choices = []
behind (MoreFiles most) files choices = files
behind (MorePairs most) files choices = files
behind (Options options) files choices = choices

-- those may be left: no more than may stand there
abbrev pub FitBehind : Tail → (files choices : List (List ℕ)) → Type 0
FitBehind Nothing [] [] = Unit {0}
FitBehind (MoreFiles most) files [] = length files ≤ most
FitBehind (MorePairs most) files [] = (length files ≤ most) × (length files % 2 ≡ 0)
FitBehind (Options options) [] choices = are_some options choices ≡ true
FitBehind tail files choices = ⊥

-- ---- the places, and what stands behind them

-- the words of places and of the tail, with these files and choices
abbrev pub filled : List Slot → Tail → (files choices : List (List ℕ)) → List (List ℕ)
filled [] tail files choices = behind tail files choices
filled (Word word ∷ places) tail files choices = word ∷ filled places tail files choices
filled (File name ∷ places) tail (file ∷ files) choices = file ∷ filled places tail files choices
filled (LoneFile name ∷ places) tail (file ∷ files) choices = file ∷ filled places tail files choices
filled (LibraryFile name kept ∷ places) tail (file ∷ files) choices =
    file ∷ filled places tail files choices
filled (OneOf name words ∷ places) tail files (choice ∷ choices) =
    choice ∷ filled places tail files choices
filled (Name name ∷ places) tail files (choice ∷ choices) =
    choice ∷ filled places tail files choices
filled places tail files choices = []

-- there is a place for each of them, or it fits behind the places; a file that stands alone isn't
-- `--help`; a library isn't one of the words that are kept there, or nothing stands behind it; and
-- each choice is one of the words of its place, or a name of a signal
abbrev pub Fits : List Slot → Tail → (files choices : List (List ℕ)) → Type 0
Fits [] tail files choices = FitBehind tail files choices
Fits (Word word ∷ places) tail files choices = Fits places tail files choices
Fits (File name ∷ places) tail (file ∷ files) choices = Fits places tail files choices
Fits (LoneFile name ∷ places) tail (file ∷ files) choices =
    (file ≢ codes "--help") × Fits places tail files choices
Fits (LibraryFile name kept ∷ places) tail (file ∷ files) choices =
    ((stands_in kept file ≡ false) ⊎ (filled places tail files choices ≡ []))
    × Fits places tail files choices
Fits (OneOf name words ∷ places) tail files (choice ∷ choices) =
    (stands_in words choice ≡ true) × Fits places tail files choices
Fits (Name name ∷ places) tail files (choice ∷ choices) =
    (is_signal_name choice ≡ true) × Fits places tail files choices
Fits places tail files choices = ⊥

-- the words have these places and this tail, name these files, and choose these words
abbrev pub HasParts : List Slot → Tail → (words files choices : List (List ℕ)) → Type 0
HasParts places tail words files choices =
    (words ≡ filled places tail files choices) × Fits places tail files choices

-- ---- the form

-- its words, with these files and choices
abbrev pub fill : Form → (files choices : List (List ℕ)) → List (List ℕ)
fill form files choices = filled form.places form.tail files choices

abbrev pub Fit : Form → (files choices : List (List ℕ)) → Type 0
Fit form files choices = Fits form.places form.tail files choices

-- the words have the form, name these files, and choose these words
abbrev pub HasForm : Form → (words files choices : List (List ℕ)) → Type 0
HasForm form words files choices = HasParts form.places form.tail words files choices

-- how many files its places name, and how many words they leave to choose
abbrev pub file_count : List Slot → ℕ
file_count [] = 0
file_count (File name ∷ places) = 1 + file_count places
file_count (LoneFile name ∷ places) = 1 + file_count places
file_count (LibraryFile name kept ∷ places) = 1 + file_count places
file_count (slot ∷ places) = file_count places

abbrev pub choice_count : List Slot → ℕ
choice_count [] = 0
choice_count (OneOf name words ∷ places) = 1 + choice_count places
choice_count (Name name ∷ places) = 1 + choice_count places
choice_count (slot ∷ places) = choice_count places

-- how many more of each may stand behind them
abbrev pub more_files : Tail → ℕ
more_files (MoreFiles most) = most
more_files (MorePairs most) = most
more_files tail = 0

abbrev pub more_choices : Tail → ℕ
more_choices (Options options) = length options
more_choices tail = 0
