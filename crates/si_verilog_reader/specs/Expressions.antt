-- (text) Expressions of Verilog, read symbol by symbol as genlib's are.
use Rattle.std.specs.Prelude.{ℕ, ◌==◌, ◌&&◌, Bool, true, false, List, [], ◌∷◌, bytes_eq}
use Rattle.std.specs.Prelude.{codes, if◌then◌else◌, Option, None, Ok, Err}
use Rattle.std.specs.Option.{is_some}
use Rattle.si_base.specs.Bytes.{ampersand, closing_parenthesis, opening_parenthesis, semicolon}
use Rattle.si_base.specs.Bytes.{tilde}
use Rattle.si_base.specs.declared.fault.TextKind.{TextKind}
use Rattle.si_base.specs.declared.fault.TextKind.TheVariants.{BadExpression}
use Rattle.si_tokens.specs.declared.fault.Stop.TheVariants.{Cut, Fault}
use Rattle.si_tokens.specs.Unread.{◌>>=◌}
use Rattle.si_genlib.specs.Expression.{Tree, Pin, Constant, trees, State, start, step}
use Rattle.si_genlib.specs.Expression.{Outcome, Goes, Ends, Stops}
use Rattle.si_genlib.specs.declared.symbol.Symbol.{Symbol as Meant}
use Rattle.si_genlib.specs.declared.symbol.Symbol.TheVariants.{Leaf, Complement, Times, Plus}
use Rattle.si_genlib.specs.declared.symbol.Symbol.TheVariants.{Open, Close, End, Other}
use Rattle.si_verilog.specs.Grammar.{bar}
use Rattle.si_verilog.specs.Symbols.{Symbol, Name, Word, Mark}
use Rattle.si_verilog_reader.specs.Placed.{Placed}
use Rattle.si_verilog_reader.specs.Parts.{Reading, if_good}

-- ---- what symbols are in an expression

abbrev pub meant_mark : ℕ → Meant Tree
meant_mark byte =
    if byte == tilde then Complement
    else if byte == ampersand then Times
    else if byte == bar then Plus
    else if byte == opening_parenthesis then Open
    else if byte == closing_parenthesis then Close
    else if byte == semicolon then End
    else Other

abbrev pub meant : Symbol → Meant Tree
meant (Name name) = Leaf (Pin name)
meant (Word word) =
    if bytes_eq (codes "1'b0") word then Leaf (Constant false)
    else if bytes_eq (codes "1'b1") word then Leaf (Constant true)
    else Other
meant (Mark byte) = meant_mark byte

-- the fault of a name, if it is one
abbrev pub fault_in : (List ℕ → Option TextKind) → Symbol → Option TextKind
fault_in fault (Name name) = fault name
fault_in fault _ = None

-- ---- reading

abbrev pub begins_operand : Meant Tree → Bool
begins_operand (Leaf t) = true
begins_operand Complement = true
begins_operand Open = true
begins_operand _ = false

-- one symbol further, where no operand stands right behind another
unfoldable pub stepped : State Tree → Meant Tree → Outcome Tree
stepped s symbol =
    if is_some s.operand && begins_operand symbol then Stops BadExpression
    else step trees s symbol

abbrev pub led : (State Tree → Reading Tree) → ℕ → List Placed → Outcome Tree → Reading Tree
led go line rest (Goes s) = go s
led go line rest (Ends tree) = Ok (tree, rest)
led go line rest (Stops kind) = Err (Fault line kind)

-- the tree of an expression up to its `;`, where names may have faults
abbrev pub expression_from : (List ℕ → Option TextKind) → State Tree → List Placed → Reading Tree
expression_from fault s [] = Err Cut
expression_from fault s (p ∷ ps) = do
  rest ← if_good p.line (fault_in fault p.symbol) ps
  led (λ t. expression_from fault t ps) p.line ps (stepped s (meant p.symbol))

unfoldable pub expression_at : (List ℕ → Option TextKind) → List Placed → Reading Tree
expression_at fault ps = expression_from fault start ps
