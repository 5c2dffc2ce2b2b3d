-- (text) Comments in a text of Verilog, and the text without them.
--
-- A comment begins with `//` and goes to the end of its line, or begins with `/*` and ends with
-- `*/`. Neither begins within an escaped name or another comment. Blanks stand in its place, so
-- that each line keeps its number.
use Rattle.std.specs.Prelude.{ℕ, ◌==◌, ◌&&◌, List, [], ◌∷◌, if◌then◌else◌}
use Rattle.si_base.specs.Bytes.{asterisk, backslash, line_feed, slash, space}
use Rattle.si_base.specs.Lines.{begins}
use Rattle.si_verilog.specs.Symbols.{is_blank}

-- where a byte stands: in none, in an escaped name, in a comment of a line, at the second byte of
-- the other kind, in that, and behind a `*` of that
pub data Region : Type 0 where
  Code : Region
  Escaped : Region
  OfLine : Region
  Opening : Region
  OfBlock : Region
  Star : Region

-- where the next byte stands, behind this one and before those
abbrev pub next_region : Region → ℕ → List ℕ → Region
next_region Code b bs =
    if b == backslash then Escaped
    else if (b == slash) && begins (λ c. c == slash) bs then OfLine
    else if (b == slash) && begins (λ c. c == asterisk) bs then Opening
    else Code
next_region Escaped b bs = if is_blank b then Code else Escaped
next_region OfLine b bs = if b == line_feed then Code else OfLine
next_region Opening b bs = OfBlock
next_region OfBlock b bs = if b == asterisk then Star else OfBlock
next_region Star b bs =
    if b == slash then Code else if b == asterisk then Star else OfBlock

-- a line feed stays, and so does each byte that stands in no comment and begins none
abbrev pub blanked : Region → Region → ℕ → ℕ
blanked Code Code b = b
blanked Code Escaped b = b
blanked Escaped after b = b
blanked region after b = if b == line_feed then b else space

abbrev pub without_comments_from : Region → List ℕ → List ℕ
without_comments_from region [] = []
without_comments_from region (b ∷ bs) = blanked region (next_region region b bs) b
    ∷ without_comments_from (next_region region b bs) bs

unfoldable pub without_comments : List ℕ → List ℕ
without_comments text = without_comments_from Code text
