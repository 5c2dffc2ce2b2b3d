-- (text) Lines of a text that are not yet read.
use Rattle.std.specs.Prelude.{ℕ, ◌≡◌, ◌⊎◌, ◌+◌, Bool, false, List, [], ◌∷◌, ◌++◌, drop, bytes_eq}
use Rattle.std.specs.Prelude.{Option, None}
use Rattle.si_base.specs.declared.fault.TextKind.{TextKind}
use Rattle.si_base.specs.declared.fault.TextKind.TheVariants.{BadLine}
use Rattle.si_base.specs.declared.fault.LineFault.{LineFault}
use Rattle.si_base.specs.declared.fault.LineFault.TheVariants.{Kind}
use Rattle.si_base.specs.declared.fault.TextFault.{TextFault}
use Rattle.si_base.specs.TextFaults.{Shows, ToldAt}
use Rattle.si_words.specs.Names.{LeavesNames}
use Rattle.si_words.specs.Lines.{Form, ended, tail_of, lines_fault, words_of, rest_of}
use Rattle.si_words.specs.Lines.{has_bad_byte_here}

-- the number of the next line, the lines, and what stands after the last line feed
pub record Left : Type 0 where
  pub number : ℕ
  pub lines : List (List ℕ)
  pub tail : List ℕ

-- all lines of a text, numbered from 1
abbrev pub all_lines : List ℕ → Left
all_lines text = record { number = 1; lines = ended text; tail = tail_of text }

-- whether the next line is this one
abbrev pub begins_with : List ℕ → List (List ℕ) → Bool
begins_with line [] = false
begins_with line (first ∷ lines) = bytes_eq line first

-- what is left after the next line
abbrev pub after_line : Left → Left
after_line left = record { number = left.number + 1; lines = drop 1 left.lines; tail = left.tail }

abbrev pub fault_of : List Form → Left → Option (ℕ × TextKind)
fault_of forms left = lines_fault left.number forms left.lines left.tail

-- one line was taken: it has these words and no bad byte
pub record TakesLine (old new : Left) (words : List (List ℕ)) : Type 0 where
  pub line : List ℕ
  pub lines : old.lines ≡ line ∷ new.lines
  pub tail : old.tail ≡ new.tail
  pub number : new.number ≡ old.number + 1
  pub clean : has_bad_byte_here line ≡ false
  pub words_are : words ≡ words_of line

-- one line was taken: it has the form, and these names after its head
pub record TakesNames (form : Form) (old new : Left) (names : List (List ℕ)) : Type 0 where
  pub words : List (List ℕ)
  pub takes : TakesLine old new words
  pub good : form words ≡ None
  pub names_are : names ≡ rest_of words

-- one line was taken: it has the form, and the names after its head went behind the old ones
pub record AddsNames (form : Form) (old new : Left) (names_old names_new : List (List ℕ)) : Type 0
  where
    pub added : List (List ℕ)
    pub takes : TakesNames form old new added
    pub names_are : names_new ≡ names_old ++ added

-- no line was taken, and no name added: whatever form is due, the lines have this fault
pub record TakesNone (fault : TextFault) (old new : Left)
    (names_old names_new : List (List ℕ)) : Type 0 where
  pub lines_same : new ≡ old
  pub names_same : names_new ≡ names_old
  pub shows : (form : Form) (forms : List Form) → Shows fault (fault_of (form ∷ forms) old)

-- what stands behind the old names where a list line was refused:
-- nothing where it hasn't the form of a list line
abbrev pub LeavesLine : ℕ → LineFault → List (List ℕ) → List (List ℕ) → List (List ℕ) → Type 0
LeavesLine limit fault names_old names_new words =
    ((fault ≡ Kind BadLine) × (names_new ≡ names_old))
    ⊎ LeavesNames limit fault names_old names_new (rest_of words)

-- one line was taken, with this fault,
-- and the names before the word with the fault went behind the old ones
pub record TakesFirst (limit : ℕ) (fault : TextFault) (old new : Left)
    (names_old names_new : List (List ℕ)) : Type 0 where
  pub words : List (List ℕ)
  pub takes : TakesLine old new words
  pub of_line : LineFault
  pub told : ToldAt of_line old.number fault
  pub leaves : LeavesLine limit of_line names_old names_new words

-- a list line was refused
abbrev pub RefusesNames : ℕ → TextFault → Left → Left → List (List ℕ) → List (List ℕ) → Type 0
RefusesNames limit fault old new names_old names_new =
    TakesNone fault old new names_old names_new
    ⊎ TakesFirst limit fault old new names_old names_new

-- one line was taken: it has the form
pub record TakesForm (form : Form) (old new : Left) : Type 0 where
  pub words : List (List ℕ)
  pub takes : TakesLine old new words
  pub good : form words ≡ None
