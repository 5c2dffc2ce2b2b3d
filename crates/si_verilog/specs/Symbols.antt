-- (text) The symbols that Verilog reads the bytes of a text as.
use Rattle.std.specs.Prelude.{ℕ, ◌==◌, ◌&&◌, ◌||◌, not, Bool, false, List, [], ◌∷◌, ◌++◌}
use Rattle.std.specs.Prelude.{if◌then◌else◌}
use Rattle.std.specs.List.{list_all}
use Rattle.si_base.specs.Bytes.{tab, line_feed, carriage_return, space, apostrophe, digit_zero}
use Rattle.si_base.specs.Bytes.{digit_nine, backslash, dollar}
use Rattle.si_base.specs.Words.{is_between, is_letter}
use Rattle.si_verilog.specs.Keywords.{is_keyword}

abbrev pub form_feed : ℕ
form_feed = 12

-- a name; a keyword, a number or another word; a mark, such as `&`
pub data Symbol : Type 0 where
  Name : (name : List ℕ) → Symbol
  Word : (word : List ℕ) → Symbol
  Mark : (byte : ℕ) → Symbol

abbrev pub is_blank : ℕ → Bool
is_blank b = (b == space) || (b == tab) || (b == line_feed) || (b == carriage_return)
    || (b == form_feed)

-- a letter, `_`, a digit or `$`
abbrev pub is_identifier_byte : ℕ → Bool
is_identifier_byte b = is_letter b || is_between digit_zero digit_nine b || (b == dollar)

-- it begins with a letter or `_`
abbrev pub is_identifier : List ℕ → Bool
is_identifier [] = false
is_identifier (b ∷ bs) = is_letter b && list_all is_identifier_byte bs

-- a bare word is a longest run of these bytes: names, keywords, and numbers as `1'b0`
abbrev pub is_bare_byte : ℕ → Bool
is_bare_byte b = is_identifier_byte b || (b == apostrophe)

-- an identifier that is no keyword is a name
abbrev pub bare_symbol : List ℕ → Symbol
bare_symbol word = if is_identifier word && not (is_keyword word) then Name word else Word word

-- a backslash, some bytes and a blank are a name too, which is those bytes; a backslash with
-- nothing behind it is none
abbrev pub escaped_symbol : List ℕ → Symbol
escaped_symbol [] = Mark backslash
escaped_symbol (b ∷ bs) = Name (b ∷ bs)

-- where reading stands: between words, in a bare word, or in an escaped one, with the bytes of the
-- word so far
pub data Place : Type 0 where
  Between : Place
  Bare : (word : List ℕ) → Place
  Escaped : (word : List ℕ) → Place

abbrev pub first_place : ℕ → Place
first_place b = if is_bare_byte b then Bare (b ∷ [])
    else if b == backslash then Escaped [] else Between

-- where it stands behind the byte
abbrev pub next_place : Place → ℕ → Place
next_place Between b = first_place b
next_place (Bare word) b = if is_bare_byte b then Bare (word ++ b ∷ []) else first_place b
next_place (Escaped word) b = if is_blank b then Between else Escaped (word ++ b ∷ [])

-- the mark that the byte is, if it is one
abbrev pub mark_at : ℕ → List Symbol
mark_at b = if is_bare_byte b || is_blank b || (b == backslash) then [] else Mark b ∷ []

-- the symbols that the byte is or ends
abbrev pub symbols_at : Place → ℕ → List Symbol
symbols_at Between b = mark_at b
symbols_at (Bare word) b = if is_bare_byte b then [] else bare_symbol word ∷ mark_at b
symbols_at (Escaped word) b = if is_blank b then escaped_symbol word ∷ [] else []

-- those that the end of the text ends; an escaped name ends with a blank alone
abbrev pub last_symbols : Place → List Symbol
last_symbols Between = []
last_symbols (Bare word) = bare_symbol word ∷ []
last_symbols (Escaped word) = Mark backslash ∷ []

abbrev pub symbols_from : Place → List ℕ → List Symbol
symbols_from place [] = last_symbols place
symbols_from place (b ∷ bs) = symbols_at place b ++ symbols_from (next_place place b) bs

-- the symbols of a text
unfoldable pub symbols_of : List ℕ → List Symbol
symbols_of text = symbols_from Between text
