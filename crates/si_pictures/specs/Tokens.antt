-- (text) The tokens that Graphviz reads the bytes of a text in its language DOT as. A part of the
-- language is enough: what isn't in it is read as `Unread`, which no text of the grammar has.
use Rattle.std.specs.Prelude.{ℕ, ◌+◌, ◌==◌, ◌||◌, Bool, false, List, [], ◌∷◌, ◌++◌, map}
use Rattle.std.specs.Prelude.{codes, bytes_eq, if◌then◌else◌}
use Rattle.std.specs.List.{list_all, list_any}
use Rattle.si_base.specs.Bytes.{line_feed, minus, greater_sign, semicolon}
use Rattle.si_base.specs.Bytes.{first_capital, last_capital, opening_bracket, closing_bracket}
use Rattle.si_base.specs.Bytes.{opening_brace, closing_brace, backslash, double_quote, ampersand}
use Rattle.si_base.specs.Bytes.{comma, equals_sign}
use Rattle.si_base.specs.Lines.{is_blank}
use Rattle.si_base.specs.Words.{is_between, is_letter, is_digit}

-- `n`
abbrev pub small_n : ℕ
small_n = 110

-- an identifier or a number; a keyword, in small letters; what a quoted string shows as a label;
-- `->`; a mark, such as `[`; and what isn't read
pub data Token : Type 0 where
  Id : (word : List ℕ) → Token
  Keyword : (word : List ℕ) → Token
  Quoted : (label : List ℕ) → Token
  Arrow : Token
  Mark : (byte : ℕ) → Token
  Unread : Token

-- ---- bare words

-- a letter, `_` or a digit
abbrev pub is_bare_byte : ℕ → Bool
is_bare_byte b = is_letter b || is_digit b

-- it begins with a letter or `_`
abbrev pub is_identifier : List ℕ → Bool
is_identifier [] = false
is_identifier (b ∷ bs) = is_letter b

abbrev pub in_small_letters : List ℕ → List ℕ
in_small_letters word =
    map (λ b. if is_between first_capital last_capital b then b + 32 else b) word

abbrev pub keywords : List (List ℕ)
keywords = codes "node" ∷ codes "edge" ∷ codes "graph" ∷ codes "digraph" ∷ codes "subgraph"
    ∷ codes "strict" ∷ []

-- in capitals or in small letters
abbrev pub is_keyword : List ℕ → Bool
is_keyword word = list_any (bytes_eq (in_small_letters word)) keywords

-- a word is a number, a keyword or an identifier
abbrev pub bare_token : List ℕ → Token
bare_token word = if list_all is_digit word then Id word
    else if is_keyword word then Keyword (in_small_letters word)
    else if is_identifier word then Id word else Unread

-- ---- reading, byte by byte

-- where reading stands: between tokens; in a bare word; behind `-`; in a quoted string, behind a
-- backslash in it, or in a name that began with `&`, with what the string shows so far; or behind
-- what isn't read
pub data Place : Type 0 where
  Between : Place
  Bare : (word : List ℕ) → Place
  Dash : Place
  Label : (label : List ℕ) → Place
  Escape : (label : List ℕ) → Place
  Entity : (label name : List ℕ) → Place
  Beyond : Place

-- `{`, `}`, `[`, `]`, `,`, `;` or `=`
abbrev pub is_mark : ℕ → Bool
is_mark b = (b == opening_brace) || (b == closing_brace) || (b == opening_bracket)
    || (b == closing_bracket) || (b == comma) || (b == semicolon) || (b == equals_sign)

abbrev pub first_place : ℕ → Place
first_place b = if is_bare_byte b then Bare (b ∷ [])
    else if b == minus then Dash
    else if b == double_quote then Label []
    else if is_mark b || is_blank b || (b == line_feed) then Between else Beyond

-- in a string a backslash and `"` show `"`, two backslashes show one, and a backslash and `n` end a
-- line
abbrev pub escape_place : List ℕ → ℕ → Place
escape_place label b = if (b == double_quote) || (b == backslash) then Label (label ++ b ∷ [])
    else if b == small_n then Label (label ++ line_feed ∷ []) else Beyond

-- `&amp;` shows `&`
abbrev pub entity_place : List ℕ → List ℕ → ℕ → Place
entity_place label name b = if b == semicolon
    then (if bytes_eq name (codes "amp") then Label (label ++ ampersand ∷ []) else Beyond)
    else Entity label (name ++ b ∷ [])

-- any other byte shows itself, and `"` ends the string
abbrev pub label_place : List ℕ → ℕ → Place
label_place label b = if b == double_quote then Between
    else if b == backslash then Escape label
    else if b == ampersand then Entity label [] else Label (label ++ b ∷ [])

-- where reading stands behind the byte
abbrev pub next_place : Place → ℕ → Place
next_place Between b = first_place b
next_place (Bare word) b = if is_bare_byte b then Bare (word ++ b ∷ []) else first_place b
next_place Dash b = if b == greater_sign then Between else Beyond
next_place (Label label) b = label_place label b
next_place (Escape label) b = escape_place label b
next_place (Entity label name) b = entity_place label name b
next_place Beyond b = Beyond

abbrev pub mark_at : ℕ → List Token
mark_at b = if is_mark b then Mark b ∷ [] else []

-- the tokens that the byte is or ends
abbrev pub tokens_at : Place → ℕ → List Token
tokens_at Between b = mark_at b
tokens_at (Bare word) b = if is_bare_byte b then [] else bare_token word ∷ mark_at b
tokens_at Dash b = if b == greater_sign then Arrow ∷ [] else []
tokens_at (Label label) b = if b == double_quote then Quoted label ∷ [] else []
tokens_at (Escape label) b = []
tokens_at (Entity label name) b = []
tokens_at Beyond b = []

-- those that the end of the text ends
abbrev pub last_tokens : Place → List Token
last_tokens Between = []
last_tokens (Bare word) = bare_token word ∷ []
last_tokens Dash = Unread ∷ []
last_tokens (Label label) = Unread ∷ []
last_tokens (Escape label) = Unread ∷ []
last_tokens (Entity label name) = Unread ∷ []
last_tokens Beyond = Unread ∷ []

abbrev pub tokens_from : Place → List ℕ → List Token
tokens_from place [] = last_tokens place
tokens_from place (b ∷ bs) = tokens_at place b ++ tokens_from (next_place place b) bs

-- the tokens of a text
unfoldable pub tokens_of : List ℕ → List Token
tokens_of text = tokens_from Between text
