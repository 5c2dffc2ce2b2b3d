-- (text) A grammar of a part of Graphviz's language DOT: directed graphs of nodes, edges and
-- settings of the graph, each with labels as the values of its attributes. What it accepts,
-- Graphviz reads with the same meaning (The DOT Language, and `escString` among its attribute
-- types).
use Rattle.std.specs.Prelude.{◌≡◌, ℕ, List, [], ◌∷◌, ◌++◌, flat_map, codes}
use Rattle.si_base.specs.Bytes.{opening_bracket, closing_bracket, opening_brace, closing_brace}
use Rattle.si_base.specs.Bytes.{semicolon, comma, equals_sign}
use Rattle.si_pictures.specs.Tokens.{Token, Id, Keyword, Quoted, Arrow, Mark, tokens_of}

pub record Attribute : Type 0 where
  pub name : List ℕ
  pub value : List ℕ

-- an attribute of the graph; a node with its attributes; an edge from a node to a node, with its
-- attributes
pub data Statement : Type 0 where
  Setting : (attribute : Attribute) → Statement
  Node : (id : List ℕ) (attributes : List Attribute) → Statement
  Link : (from to : List ℕ) (attributes : List Attribute) → Statement

-- `NAME = "VALUE"`
abbrev pub attribute_tokens : Attribute → List Token
attribute_tokens a = Id a.name ∷ Mark equals_sign ∷ Quoted a.value ∷ []

-- an attribute behind another
abbrev pub later_tokens : Attribute → List Token
later_tokens a = Mark comma ∷ attribute_tokens a

-- nothing, or attributes in brackets with commas between them
abbrev pub list_tokens : List Attribute → List Token
list_tokens [] = []
list_tokens (a ∷ others) = Mark opening_bracket ∷ attribute_tokens a
    ++ (flat_map later_tokens others ++ Mark closing_bracket ∷ [])

-- `NAME = "VALUE";`, `ID [..];` or `ID -> ID [..];`
abbrev pub statement_tokens : Statement → List Token
statement_tokens (Setting attribute) = attribute_tokens attribute ++ Mark semicolon ∷ []
statement_tokens (Node id attributes) = Id id ∷ list_tokens attributes ++ Mark semicolon ∷ []
statement_tokens (Link from to attributes) =
    Id from ∷ Arrow ∷ Id to ∷ list_tokens attributes ++ Mark semicolon ∷ []

-- `digraph { STATEMENTS }`
abbrev pub graph_tokens : List Statement → List Token
graph_tokens statements = Keyword (codes "digraph") ∷ Mark opening_brace
    ∷ flat_map statement_tokens statements ++ Mark closing_brace ∷ []

-- the text is that of a graph with these statements
abbrev pub IsReadAs : List ℕ → List Statement → Type 0
IsReadAs text statements = tokens_of text ≡ graph_tokens statements
