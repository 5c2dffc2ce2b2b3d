-- (text) Expressions: their trees, and how they are read, token by token, from left to right.
use Rattle.std.specs.Prelude.{ℕ, ◌==◌, ◌&&◌, ◌||◌, not, Bool, true, false, List, [], ◌∷◌, length}
use Rattle.std.specs.Prelude.{nat_le, bytes_eq, codes, if◌then◌else◌, Option, Some, None, Result}
use Rattle.std.specs.Prelude.{Ok, Err}
use Rattle.si_base.specs.Bytes.{apostrophe, plus, semicolon, opening_parenthesis, asterisk}
use Rattle.si_base.specs.Bytes.{closing_parenthesis, exclamation_mark}
use Rattle.si_base.specs.Lines.{begins}
use Rattle.si_base.specs.Words.{is_name_byte}
use Rattle.si_base.specs.declared.fault.TextKind.{TextKind}
use Rattle.si_base.specs.declared.fault.TextKind.TheVariants.{BadExpression, TooDeep}
use Rattle.si_tokens.specs.declared.fault.Stop.{Stop}
use Rattle.si_tokens.specs.declared.fault.Stop.TheVariants.{Cut, Fault}
use Rattle.si_genlib.specs.declared.symbol.Symbol.{Symbol}
use Rattle.si_genlib.specs.declared.symbol.Symbol.TheVariants.{Leaf, Complement, Prime, Times, Plus}
use Rattle.si_genlib.specs.declared.symbol.Symbol.TheVariants.{Open, Close, End, Other}
use Rattle.si_genlib.specs.declared.symbol.Operator.{Operator}
use Rattle.si_genlib.specs.declared.symbol.Operator.TheVariants as operators
use Rattle.si_genlib.specs.Limits.{max_unfinished}
use Rattle.si_tokens.specs.Unread.{Unread, Piece}

-- ---- trees and their values

pub data Tree : Type 0 where
  Pin : (name : List ℕ) → Tree
  Constant : (value : Bool) → Tree
  Not : (operand : Tree) → Tree
  And : (left right : Tree) → Tree
  Or : (left right : Tree) → Tree

-- what stands for pins, for constants, and for the operations
pub record Operations (X : Type 0) : Type 0 where
  pub pin : List ℕ → X
  pub constant : Bool → X
  pub complement : X → X
  pub both : X → X → X
  pub either : X → X → X

abbrev pub trees : Operations Tree
trees = record {
  pin = λ name. Pin name;
  constant = λ value. Constant value;
  complement = λ t. Not t;
  both = λ t u. And t u;
  either = λ t u. Or t u;
}

-- the values 0 and 1, where the pins have these values
abbrev pub truth : (List ℕ → Bool) → Operations Bool
truth pins = record {
  pin = pins;
  constant = λ value. value;
  complement = not;
  both = λ v w. v && w;
  either = λ v w. v || w;
}

abbrev pub value_of : {X : Type 0} → Operations X → Tree → X
value_of o (Pin name) = o.pin name
value_of o (Constant value) = o.constant value
value_of o (Not t) = o.complement (value_of o t)
value_of o (And t u) = o.both (value_of o t) (value_of o u)
value_of o (Or t u) = o.either (value_of o t) (value_of o u)

-- ---- symbols: what tokens are

abbrev pub is_name : List ℕ → Bool
is_name bytes = begins is_name_byte bytes

abbrev pub is_zero : List ℕ → Bool
is_zero bytes = bytes_eq (codes "CONST0") bytes

abbrev pub is_constant : List ℕ → Bool
is_constant bytes = is_zero bytes || bytes_eq (codes "CONST1") bytes

abbrev pub leaf : {X : Type 0} → Operations X → List ℕ → X
leaf o name = if is_constant name then o.constant (not (is_zero name)) else o.pin name

abbrev pub mark : {X : Type 0} → List ℕ → Symbol X
mark [] = Other
mark (b ∷ c ∷ bs) = Other
mark (b ∷ []) =
    if b == exclamation_mark then Complement
    else if b == apostrophe then Prime
    else if b == asterisk then Times
    else if b == plus then Plus
    else if b == opening_parenthesis then Open
    else if b == closing_parenthesis then Close
    else if b == semicolon then End
    else Other

abbrev pub symbol : {X : Type 0} → Operations X → List ℕ → Symbol X
symbol o bytes = if is_name bytes then Leaf (leaf o bytes) else mark bytes

-- ---- reading

-- what is read of an expression: an operand, where it stands last; the operators before it that
-- aren't finished, the last first; and of the innermost parentheses the terms before the last `+`,
-- together, and the factors behind that, together
pub record State (X : Type 0) : Type 0 where
  pub operand : Option X
  pub unfinished : List (Operator X)
  pub terms : Option X
  pub factors : Option X

abbrev pub start : {X : Type 0} → State X
start = record { operand = None; unfinished = []; terms = None; factors = None }

-- a symbol leads on, ends the expression, or can't stand there
pub data Outcome (X : Type 0) : Type 0 where
  Goes : (state : State X) → Outcome X
  Ends : (value : X) → Outcome X
  Stops : (kind : TextKind) → Outcome X

-- with what stands before, if anything
abbrev pub after : {X : Type 0} → (X → X → X) → Option X → X → X
after join None x = x
after join (Some before) x = join before x

-- one more unfinished operator, where there is room
abbrev pub opened : {X : Type 0} → State X → State X → Outcome X
opened old new = if nat_le max_unfinished (length old.unfinished) then Stops TooDeep else Goes new

-- where an operand is due
abbrev pub due : {X : Type 0} → State X → Symbol X → Outcome X
due s (Leaf x) = Goes (record {
  operand = Some x;
  unfinished = s.unfinished;
  terms = s.terms;
  factors = s.factors;
})
due s Complement = opened s (record {
  operand = None;
  unfinished = operators.Complement ∷ s.unfinished;
  terms = s.terms;
  factors = s.factors;
})
due s Open = opened s (record {
  operand = None;
  unfinished = operators.Paren s.terms s.factors ∷ s.unfinished;
  terms = None;
  factors = None;
})
due s _ = Stops BadExpression

abbrev pub is_complement : {X : Type 0} → Operator X → Bool
is_complement operators.Complement = true
is_complement (operators.Paren terms factors) = false

abbrev pub begins_complement : {X : Type 0} → List (Operator X) → Bool
begins_complement [] = false
begins_complement (operator ∷ more) = is_complement operator

-- the complement of an operand for each `!` before it
abbrev pub complemented : {X : Type 0} → Operations X → X → List (Operator X) → X
complemented o x [] = x
complemented o x (operators.Complement ∷ more) = complemented o (o.complement x) more
complemented o x (operators.Paren terms factors ∷ more) = x

-- what is still unfinished behind the operand
abbrev pub still : {X : Type 0} → List (Operator X) → List (Operator X)
still [] = []
still (operators.Complement ∷ more) = still more
still (operators.Paren terms factors ∷ more) = operators.Paren terms factors ∷ more

-- the term so far, with the factor that the operand ends
abbrev pub term : {X : Type 0} → Operations X → State X → X → X
term o s x = after o.both s.factors (complemented o x s.unfinished)

-- the terms so far, with that one
abbrev pub all_terms : {X : Type 0} → Operations X → State X → X → X
all_terms o s x = after o.either s.terms (term o s x)

-- the factor ends, and another is due in its term
abbrev pub next_factor : {X : Type 0} → Operations X → State X → X → State X
next_factor o s x = record {
  operand = None;
  unfinished = still s.unfinished;
  terms = s.terms;
  factors = Some (term o s x);
}

-- the term ends, and another is due
abbrev pub next_term : {X : Type 0} → Operations X → State X → X → State X
next_term o s x = record {
  operand = None;
  unfinished = still s.unfinished;
  terms = Some (all_terms o s x);
  factors = None;
}

-- what stands in parentheses is an operand
abbrev pub closed : {X : Type 0} → X → List (Operator X) → Outcome X
closed x (operators.Paren terms factors ∷ more) =
    Goes (record { operand = Some x; unfinished = more; terms = terms; factors = factors })
closed x _ = Stops BadExpression

abbrev pub ended : {X : Type 0} → X → List (Operator X) → Outcome X
ended x [] = Ends x
ended x (operator ∷ more) = Stops BadExpression

-- behind an operand
abbrev pub behind : {X : Type 0} → Operations X → State X → X → Symbol X → Outcome X
behind o s x Prime = Goes (record {
  operand = Some (o.complement x);
  unfinished = s.unfinished;
  terms = s.terms;
  factors = s.factors;
})
behind o s x Times = Goes (next_factor o s x)
behind o s x Plus = Goes (next_term o s x)
behind o s x Close = closed (all_terms o s x) (still s.unfinished)
behind o s x End = ended (all_terms o s x) (still s.unfinished)
behind o s x symbol = due (next_factor o s x) symbol

abbrev pub step_at : {X : Type 0} → Operations X → State X → Option X → Symbol X → Outcome X
step_at o s None symbol = due s symbol
step_at o s (Some x) symbol = behind o s x symbol

unfoldable pub step : {X : Type 0} → Operations X → State X → Symbol X → Outcome X
step o s symbol = step_at o s s.operand symbol

abbrev pub led : {X : Type 0} → (State X → Result (X × Unread) Stop) → Piece → Outcome X
    → Result (X × Unread) Stop
led next token (Goes s) = next s
led next token (Ends x) = Ok (x, token.rest)
led next token (Stops kind) = Err (Fault token.line kind)

-- the value of the expression of these tokens, and what is left behind its `;`
abbrev pub read : {X : Type 0} → Operations X → State X → List Piece → Result (X × Unread) Stop
read o s [] = Err Cut
read o s (token ∷ more) = led (λ t. read o t more) token (step o s (symbol o token.bytes))
