-- (text) A grammar of structural Verilog: modules one after another, in which instances of modules
-- stand behind the assigns. What it accepts, Verilog accepts with the same meaning (IEEE 1364-2005,
-- Annex A: module instantiations by named port connections).
use Rattle.std.specs.Prelude.{◌≡◌, ℕ, List, [], ◌∷◌, ◌++◌, flat_map}
use Rattle.std.specs.List.{join_by}
use Rattle.si_base.specs.Bytes.{comma, dot, semicolon, opening_parenthesis, closing_parenthesis}
use Rattle.si_verilog.specs.Symbols.{Symbol, Name, Mark}
use Rattle.si_verilog.specs.Grammar.{Module, SpellAssigns, module_symbols}

-- the port is connected to the net
pub record Connection : Type 0 where
  pub port : List ℕ
  pub net : List ℕ

-- an instance of the module that is called `cell`
pub record Placement : Type 0 where
  pub cell : List ℕ
  pub name : List ℕ
  pub connections : List Connection

-- a module, and the instances in it
pub record Part : Type 0 where
  pub body : Module
  pub placements : List Placement

-- `.PORT(NET)`
abbrev pub connection_symbols : Connection → List Symbol
connection_symbols c = Mark dot ∷ Name c.port ∷ Mark opening_parenthesis ∷ Name c.net
    ∷ Mark closing_parenthesis ∷ []

-- `CELL NAME(CONNECTIONS);`, with commas between the connections
abbrev pub placement_symbols : Placement → List Symbol
placement_symbols p = Name p.cell ∷ Name p.name ∷ Mark opening_parenthesis
    ∷ join_by connection_symbols (Mark comma ∷ []) p.connections
    ++ (Mark closing_parenthesis ∷ Mark semicolon ∷ [])

-- a module as ever, with the instances between its assigns and its end
pub record SpellPart (symbols : List Symbol) (p : Part) : Type 0 where
  pub assigns : List Symbol
  pub spell : SpellAssigns assigns p.body.assigns
  pub whole : symbols
      ≡ module_symbols p.body (assigns ++ flat_map placement_symbols p.placements)

-- modules, one after another
pub data SpellParts : List Symbol → List Part → Type 0 where
  no_part : SpellParts [] []
  part : {xs rest : List Symbol} {p : Part} {parts : List Part} → SpellPart xs p
      → SpellParts rest parts → SpellParts (xs ++ rest) (p ∷ parts)
