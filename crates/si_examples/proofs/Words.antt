-- Lines and words of texts: the definitions at work.
use Rattle.std.proofs.Common.{◌≡◌, ℕ, true, false, List, [], ◌∷◌, refl, Some, None, codes}
use Rattle.si_base.specs.declared.fault.TextKind.TheVariants.{BadEvent, Repeated}
use Rattle.si_base.specs.Lines.{before_comment, has_bad_byte, lines_of, words_in}
use Rattle.si_base.specs.Words.{is_name_byte, is_signal_name, line}
use Rattle.si_words.specs.Events.{event_fault, event_of}
use Rattle.si_words.specs.Lines.{words_of}
use Rattle.si_words.specs.Names.{name_fault}
use Rattle.si_words.specs.Sums.{cut_at, is_literal, is_one, literal_name}
use Rattle.si_base.specs.Graph.{rise}

-- the last line has no end, and an empty line is one
three_lines : lines_of (codes "a # c\n\n d") ≡ codes "a # c" ∷ [] ∷ codes " d" ∷ []
three_lines = refl

-- a brace is a word alone, where braces are told apart
braces_apart : words_in true (before_comment (codes " a {b# c")) ≡ codes "a" ∷ codes "{" ∷ codes "b" ∷ []
braces_apart = refl

braces_within : words_in false (codes "{b}") ≡ codes "{b}" ∷ []
braces_within = refl

-- a comment may have any byte
bad_byte : has_bad_byte (codes "a\0") ≡ true
bad_byte = refl

bad_byte_of_a_comment : has_bad_byte (codes "a\t# \0") ≡ false
bad_byte_of_a_comment = refl

-- two blanks have an empty word between them
two_blanks : words_of (codes "x  y") ≡ codes "x" ∷ [] ∷ codes "y" ∷ []
two_blanks = refl

written : line (codes ".inputs" ∷ codes "a" ∷ codes "b" ∷ []) ≡ codes ".inputs a b\n"
written = refl

-- ---- names and literals
name_bytes : (is_name_byte 55 ≡ true) × (is_name_byte 43 ≡ false)
name_bytes = (refl, refl)

signal_name : is_signal_name (codes "_x1[0]") ≡ true
signal_name = refl

digit_first : is_signal_name (codes "1x") ≡ false
digit_first = refl

no_name : is_signal_name [] ≡ false
no_name = refl

literals : (is_literal (codes "x") ≡ true) × (is_literal (codes "x'") ≡ true) × (is_literal (codes "x''") ≡ false)
literals = (refl, refl, refl)

complemented : literal_name (codes "x'") ≡ codes "x"
complemented = refl

repeated : name_fault 2 (codes "a" ∷ codes "b" ∷ []) (codes "b") ≡ Some Repeated
repeated = refl

-- ---- gate lines
set_and_reset : cut_at (codes "|") (codes "a" ∷ codes "b'" ∷ codes "|" ∷ codes "a'" ∷ [])
    ≡ Some (codes "a" ∷ codes "b'" ∷ [], codes "a'" ∷ [])
set_and_reset = refl

no_mark : cut_at (codes ":") (codes "a" ∷ codes "|" ∷ []) ≡ None
no_mark = refl

one_word : is_one (codes "a'") (codes "a'" ∷ []) ≡ true
one_word = refl

-- ---- words of events
abbrev names : List (List ℕ)
names = codes "a" ∷ codes "b" ∷ []

rising : event_of names (codes "a+") ≡ rise 0
rising = refl

-- at most nine digits stand behind the slash, and at least one
nine_digits : event_fault names (codes "b-/123456789") ≡ None
nine_digits = refl

ten_digits : event_fault names (codes "b-/1234567890") ≡ Some BadEvent
ten_digits = refl

no_digit : event_fault names (codes "b-/") ≡ Some BadEvent
no_digit = refl

sign_alone : event_fault names (codes "+") ≡ Some BadEvent
sign_alone = refl

no_sign : (event_fault names (codes "b") ≡ Some BadEvent) × (event_fault names (codes "b-x") ≡ Some BadEvent)
no_sign = (refl, refl)
