-- (text) A grammar of a part of Verilog: modules of ports, wires and assigns, each to an expression
-- of `~`, `&` and `|`. What it accepts, Verilog accepts with the same meaning (IEEE 1364-2005,
-- Annex A, and its table of precedences: `~` before `&`, `&` before `|`, and each joins from the
-- left).
use Rattle.std.specs.Prelude.{◌≡◌, ℕ, ◌&&◌, ◌||◌, not, Bool, true, false, List, [], ◌∷◌, ◌++◌}
use Rattle.std.specs.Prelude.{codes, flat_map}
use Rattle.std.specs.List.{join_by}
use Rattle.si_base.specs.Bytes.{tilde, semicolon, opening_parenthesis, closing_parenthesis, comma}
use Rattle.si_base.specs.Bytes.{ampersand, equals_sign}
use Rattle.si_verilog.specs.Symbols.{Symbol, Name, Word, Mark}

-- `|`
abbrev pub bar : ℕ
bar = 124

-- ---- expressions

-- what an expression is made of
pub data Tree : Type 0 where
  Constant : (value : Bool) → Tree
  Named : (name : List ℕ) → Tree
  Not : (of : Tree) → Tree
  And : (left right : Tree) → Tree
  Or : (left right : Tree) → Tree

-- its value for 0 and 1, where each name has a value
abbrev pub tree_value : (List ℕ → Bool) → Tree → Bool
tree_value values (Constant value) = value
tree_value values (Named name) = values name
tree_value values (Not of) = not (tree_value values of)
tree_value values (And left right) = tree_value values left && tree_value values right
tree_value values (Or left right) = tree_value values left || tree_value values right

-- what symbols may be
pub data Level : Type 0 where
  Primary : Level
  Factor : Level
  Term : Level
  Expression : Level

-- the symbols spell the tree at that level
pub data Spells : Level → List Symbol → Tree → Type 0 where
  -- a primary is a constant, a name, or an expression in parentheses
  zero : Spells Primary (Word (codes "1'b0") ∷ []) (Constant false)
  one : Spells Primary (Word (codes "1'b1") ∷ []) (Constant true)
  named : (name : List ℕ) → Spells Primary (Name name ∷ []) (Named name)
  grouped : {inner : List Symbol} {tree : Tree} → Spells Expression inner tree
      → Spells Primary (Mark opening_parenthesis ∷ inner ++ Mark closing_parenthesis ∷ []) tree
  -- a factor is a primary, or its complement
  as_factor : {xs : List Symbol} {tree : Tree} → Spells Primary xs tree → Spells Factor xs tree
  complemented : {xs : List Symbol} {tree : Tree} → Spells Primary xs tree
      → Spells Factor (Mark tilde ∷ xs) (Not tree)
  -- a term is factors with `&` between them
  as_term : {xs : List Symbol} {tree : Tree} → Spells Factor xs tree → Spells Term xs tree
  with_factor : {xs ys : List Symbol} {left right : Tree} → Spells Term xs left
      → Spells Factor ys right → Spells Term (xs ++ Mark ampersand ∷ ys) (And left right)
  -- an expression is terms with `|` between them
  as_expression : {xs : List Symbol} {tree : Tree} → Spells Term xs tree → Spells Expression xs tree
  with_term : {xs ys : List Symbol} {left right : Tree} → Spells Expression xs left
      → Spells Term ys right → Spells Expression (xs ++ Mark bar ∷ ys) (Or left right)

-- ---- modules

pub data Port : Type 0 where
  InputPort : (name : List ℕ) → Port
  OutputPort : (name : List ℕ) → Port

-- the signal of the name is driven by the expression
pub record Assign : Type 0 where
  pub name : List ℕ
  pub tree : Tree

pub record Module : Type 0 where
  pub name : List ℕ
  pub ports : List Port
  pub wires : List (List ℕ)
  pub assigns : List Assign

-- `input NAME` or `output NAME`
abbrev pub port_symbols : Port → List Symbol
port_symbols (InputPort name) = Word (codes "input") ∷ Name name ∷ []
port_symbols (OutputPort name) = Word (codes "output") ∷ Name name ∷ []

-- `wire NAME;`
abbrev pub wire_symbols : List ℕ → List Symbol
wire_symbols name = Word (codes "wire") ∷ Name name ∷ Mark semicolon ∷ []

-- `assign NAME = EXPRESSION;`, one after another
pub data SpellAssigns : List Symbol → List Assign → Type 0 where
  no_assign : SpellAssigns [] []
  assign : (name : List ℕ) {xs rest : List Symbol} {tree : Tree} {assigns : List Assign}
      → Spells Expression xs tree → SpellAssigns rest assigns
      → SpellAssigns (Word (codes "assign") ∷ Name name ∷ Mark equals_sign
      ∷ xs ++ Mark semicolon ∷ rest) (record { name = name; tree = tree } ∷ assigns)

-- `module NAME(PORTS);`, wires, assigns, `endmodule`; commas stand between ports
abbrev pub module_symbols : Module → List Symbol → List Symbol
module_symbols m assigns = Word (codes "module") ∷ Name m.name ∷ Mark opening_parenthesis
    ∷ join_by port_symbols (Mark comma ∷ []) m.ports
    ++ (Mark closing_parenthesis ∷ Mark semicolon ∷ flat_map wire_symbols m.wires
    ++ (assigns ++ Word (codes "endmodule") ∷ []))

-- the symbols spell the module
pub record SpellModule (symbols : List Symbol) (m : Module) : Type 0 where
  pub assigns : List Symbol
  pub spell : SpellAssigns assigns m.assigns
  pub whole : symbols ≡ module_symbols m assigns
