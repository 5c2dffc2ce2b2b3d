-- Worked examples of symbols and their lines.
use Rattle.std.proofs.Common.{◌≡◌, [], ◌∷◌, refl, codes}
use Rattle.si_base.specs.Bytes.{backslash, semicolon}
use Rattle.si_verilog.specs.Keywords.{keywords, is_keyword}
use Rattle.si_verilog.specs.Symbols.{Name, Word, Mark}
use Rattle.si_verilog_reader.specs.Placed.{on_line, placed_symbols}

-- an escaped name begins on the second line, and may have any bytes
two_lines : placed_symbols (codes "a\n\\b$ c;")
    ≡ on_line 1 (Name (codes "a")) ∷ on_line 2 (Name (codes "b$")) ∷ on_line 2 (Name (codes "c"))
    ∷ on_line 2 (Mark semicolon) ∷ []
unfolding placed_symbols is_keyword keywords
two_lines = refl

-- a keyword is no name, but for one that is escaped; the line feed behind that ends its line
keyword : placed_symbols (codes "wire \\wire\n;")
    ≡ on_line 1 (Word (codes "wire")) ∷ on_line 1 (Name (codes "wire")) ∷ on_line 2 (Mark semicolon) ∷ []
unfolding placed_symbols is_keyword keywords
keyword = refl

-- an escaped name without a blank behind it is none
no_blank : placed_symbols (codes "a\n\\b;") ≡ on_line 1 (Name (codes "a")) ∷ on_line 2 (Mark backslash) ∷ []
unfolding placed_symbols is_keyword keywords
no_blank = refl

-- nor is a backslash in front of a blank
no_bytes : placed_symbols (codes "\\ a") ≡ on_line 1 (Mark backslash) ∷ on_line 1 (Name (codes "a")) ∷ []
unfolding placed_symbols is_keyword keywords
no_bytes = refl

-- a number is a bare word
a_number : placed_symbols (codes "\r\n1'b0\t;") ≡ on_line 2 (Word (codes "1'b0")) ∷ on_line 2 (Mark semicolon) ∷ []
unfolding placed_symbols is_keyword keywords
a_number = refl
