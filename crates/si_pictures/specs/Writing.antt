-- (text) Statements as they are written.
use Rattle.std.specs.Prelude.{ℕ, ◌==◌, List, [], ◌∷◌, ◌++◌, flat_map, codes, if◌then◌else◌}
use Rattle.si_base.specs.Bytes.{line_feed, backslash, double_quote, ampersand}
use Rattle.si_pictures.specs.Grammar.{Attribute, Statement, Setting, Node, Link}
use Rattle.si_pictures.specs.Tokens.{small_n}

-- a byte of a label
abbrev pub escaped_byte : ℕ → List ℕ
escaped_byte b = if b == double_quote then backslash ∷ double_quote ∷ []
    else if b == backslash then backslash ∷ backslash ∷ []
    else if b == line_feed then backslash ∷ small_n ∷ []
    else if b == ampersand then codes "&amp;" else b ∷ []

-- `NAME="VALUE"`
abbrev pub attribute_text : Attribute → List ℕ
attribute_text a = a.name ++ (codes "=\"" ++ (flat_map escaped_byte a.value ++ codes "\""))

-- an attribute behind another
abbrev pub later_text : Attribute → List ℕ
later_text a = codes ", " ++ attribute_text a

abbrev pub list_text : List Attribute → List ℕ
list_text [] = []
list_text (a ∷ others) = codes " [" ++ (attribute_text a
    ++ (flat_map later_text others ++ codes "]"))

-- a line for each
abbrev pub statement_text : Statement → List ℕ
statement_text (Setting attribute) = codes "  " ++ (attribute_text attribute ++ codes ";\n")
statement_text (Node id attributes) = codes "  " ++ (id ++ (list_text attributes ++ codes ";\n"))
statement_text (Link from to attributes) =
    codes "  " ++ (from ++ (codes " -> " ++ (to ++ (list_text attributes ++ codes ";\n"))))

unfoldable pub dot_text : List Statement → List ℕ
dot_text statements = codes "digraph {\n" ++ (flat_map statement_text statements ++ codes "}\n")
