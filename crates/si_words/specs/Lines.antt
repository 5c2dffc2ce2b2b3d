-- (text) Lines of a text by their words, and the fault of lines against the forms that are due.
use Rattle.std.specs.Prelude.{ℕ, ◌==◌, ◌+◌, Bool, not, ◌||◌, List, [], ◌∷◌, if◌then◌else◌, bytes_eq}
use Rattle.std.specs.Prelude.{Option, Some}
use Rattle.std.specs.List.{list_any, slice_split}
use Rattle.si_base.specs.Bytes.{line_feed, space, tilde}
use Rattle.si_base.specs.Words.{is_between}
use Rattle.si_base.specs.declared.fault.TextKind.{TextKind}
use Rattle.si_base.specs.declared.fault.TextKind.TheVariants.{BadByte, BadLine, NoEnd}
use Rattle.si_base.specs.Faults.{when, ◌otherwise◌, first_after, at_line}
use Rattle.si_words.specs.Names.{name_fault}
use Rattle.si_words.specs.Sums.{is_empty}

abbrev pub words_of : List ℕ → List (List ℕ)
words_of line = slice_split (λ b. b == space) line

abbrev pub rest_of : List (List ℕ) → List (List ℕ)
rest_of [] = []
rest_of (head ∷ names) = names

-- the head, then names; no two blanks stand together
abbrev pub names_fault : ℕ → List ℕ → List (List ℕ) → List (List ℕ) → Option TextKind
names_fault limit head before [] = Some BadLine
names_fault limit head before (w ∷ names) =
    when (not (bytes_eq head w) || list_any is_empty names) BadLine
    otherwise first_after (name_fault limit) before names

abbrev pub onto_head : ℕ → List (List ℕ) → List (List ℕ)
onto_head b [] = []
onto_head b (line ∷ lines) = (b ∷ line) ∷ lines

-- the lines that a line feed ends
abbrev pub ended : List ℕ → List (List ℕ)
ended [] = []
ended (b ∷ bs) = if b == line_feed then [] ∷ ended bs else onto_head b (ended bs)

-- what stands after the last line feed
abbrev pub tail_of : List ℕ → List ℕ
tail_of [] = []
tail_of (b ∷ bs) = if (b == line_feed) || not (is_empty (ended bs)) then tail_of bs else
    b ∷ tail_of bs

-- what fault words have
abbrev pub Form : Type 0
Form = List (List ℕ) → Option TextKind

-- a byte that is neither a space nor visible
abbrev pub has_bad_byte_here : List ℕ → Bool
has_bad_byte_here line = list_any (λ b. not (is_between space tilde b)) line

-- the lines from number n on and the tail, against the forms that are due there
abbrev pub lines_fault : ℕ → List Form → List (List ℕ) → List ℕ → Option (ℕ × TextKind)
lines_fault n [] [] tail = at_line n (when (not (is_empty tail)) BadLine)
lines_fault n [] (line ∷ lines) tail = Some (n, BadLine)
lines_fault n (form ∷ forms) [] tail =
    at_line n (when (has_bad_byte_here tail) BadByte otherwise Some NoEnd)
lines_fault n (form ∷ forms) (line ∷ lines) tail =
    at_line n (when (has_bad_byte_here line) BadByte otherwise form (words_of line))
    otherwise lines_fault (n + 1) forms lines tail
