-- What is read of an expression, as the definitions see it.
use Rattle.std.specs.Prelude.{◌≡◌, ℕ, Bool, true, false, List, [], ◌∷◌, reverse}
use Rattle.std.specs.Prelude.{Option, Some, None, Result, Ok, Err}
use Rattle.si_base.specs.declared.fault.LineFault.{LineFault}
use Rattle.si_base.specs.declared.fault.LineFault.TheVariants as line_faults
use Rattle.si_tokens.specs.declared.fault.ReadFault.{ReadFault}
use Rattle.si_tokens.specs.declared.fault.ReadFault.TheVariants as read_faults
use Rattle.si_tokens.specs.declared.fault.Stop.TheVariants as stops
use Rattle.si_genlib.specs.declared.symbol.Symbol.{Symbol}
use Rattle.si_genlib.specs.declared.symbol.Symbol.TheVariants as symbols
use Rattle.si_genlib.specs.declared.symbol.Operator.{Operator}
use Rattle.si_genlib.specs.declared.symbol.Operator.TheVariants as operators
use Rattle.si_genlib.specs.Expression.{Tree, Pin, Constant, trees, State, Outcome, Goes, Ends, Stops}
use Rattle.si_equations_reader.specs.Steps.{last_of, before_last, after_steps, tree_of}
use Rattle.si_equations_reader.specs.declared.step.Step.{Step}
use Rattle.si_equations_reader.specs.declared.symbol.Symbol.{Symbol as SymbolHeld}
use Rattle.si_equations_reader.specs.declared.symbol.Symbol.TheVariants as held_symbols
use Rattle.si_equations_reader.specs.declared.machine.Operator.{Operator as OperatorHeld}
use Rattle.si_equations_reader.specs.declared.machine.Operator.TheVariants as held_operators
use Rattle.si_equations_reader.specs.declared.machine.Reading.{Reading}

abbrev pub symbol_now : SymbolHeld → Symbol Tree
symbol_now (held_symbols.Pin name) = symbols.Leaf (Pin name.now)
symbol_now (held_symbols.Constant value) = symbols.Leaf (Constant value)
symbol_now held_symbols.Complement = symbols.Complement
symbol_now held_symbols.Prime = symbols.Prime
symbol_now held_symbols.Times = symbols.Times
symbol_now held_symbols.Plus = symbols.Plus
symbol_now held_symbols.Open = symbols.Open
symbol_now held_symbols.Close = symbols.Close
symbol_now held_symbols.End = symbols.End
symbol_now held_symbols.Other = symbols.Other

-- the last of the trees, where something stands, and the trees before it
abbrev pub standing : Bool → List Tree → Option Tree
standing true ts = Some (last_of trees ts)
standing false ts = None

abbrev pub before : Bool → List Tree → List Tree
before true ts = before_last ts
before false ts = ts

-- the operators that aren't finished, the last first, and the trees before them
abbrev pub operators_now : List Tree → List OperatorHeld → List (Operator Tree)
operators_now ts [] = []
operators_now ts (held_operators.Complement ∷ more) = operators.Complement ∷ operators_now ts more
operators_now ts (held_operators.Paren terms factors ∷ more) =
    operators.Paren (standing terms (before factors ts)) (standing factors ts)
    ∷ operators_now (before terms (before factors ts)) more

-- the trees of the steps so far, the last first
abbrev pub trees_now : List Step → List Tree
trees_now all = after_steps trees [] all

-- those before the last
abbrev pub trees_before : List Step → List Tree
trees_before all = before_last (trees_now all)

-- the last trees are those of the operand, the factors and the terms that stand, and then those of
-- the parentheses around
abbrev pub state_of : Bool → Bool → Bool → List OperatorHeld → List Tree → State Tree
state_of operand terms factors unfinished ts = record {
  operand = standing operand ts;
  unfinished = operators_now (before terms (before factors (before operand ts))) unfinished;
  terms = standing terms (before factors (before operand ts));
  factors = standing factors (before operand ts);
}

abbrev pub state_now : Reading → State Tree
state_now r = state_of r.operand r.terms r.factors (reverse r.unfinished.items) (trees_now r.steps.items)

-- the same, where an operand stands last
abbrev pub behind_now : Reading → State Tree
behind_now r = state_of true r.terms r.factors (reverse r.unfinished.items) (trees_now r.steps.items)

abbrev pub StopsWith : LineFault → Outcome Tree → Type 0
StopsWith line_faults.NoMemory outcome = Unit {0}
StopsWith (line_faults.Kind kind) outcome = outcome ≡ Stops kind

abbrev pub LeadsOn : Bool → Reading → Outcome Tree → Type 0
LeadsOn false new outcome = outcome ≡ Goes (state_now new)
LeadsOn true new outcome = outcome ≡ Ends (tree_of new.steps.items)

-- the symbol leads to what is read now, or ends the expression, or it stops there
abbrev pub Steps : Result Bool LineFault → Reading → Outcome Tree → Type 0
Steps (Ok ends) new outcome = LeadsOn ends new outcome
Steps (Err fault) new outcome = StopsWith fault outcome

-- a token's fault, with its line
abbrev pub ToldAt : LineFault → ℕ → ReadFault → Type 0
ToldAt line_faults.NoMemory line fault = fault ≡ read_faults.NoMemory
ToldAt (line_faults.Kind kind) line fault = fault ≡ read_faults.Stop (stops.Fault line kind)
