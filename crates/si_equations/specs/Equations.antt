-- (text) A text of equations, in a part of the form that petrify and SIS use: what it spells, or
-- its first fault.
--
--     # a comment to the end of the line
--     INORDER = a b c;
--     OUTORDER = [c] d;
--     [c] = a b + c (a + b);
--     d = a * !x;
--     x = b';
--
-- The two lists stand in front, in this order, and behind them one equation for each signal that
-- isn't an input. A name of `INORDER` that stands in `OUTORDER` too, as `c`, is an output that is
-- fed back to the gates, and no input. So petrify lists each output that an equation reads; here
-- none must be listed twice. A statement ends at its `;`, on whatever line. A signal that has an
-- equation and stands in neither list, as `x`, is internal. A name in brackets is the same as
-- without them. Expressions are those of genlib: so the constants are `CONST0` and `CONST1`, and
-- no `0` and `1`. Statements of other kinds, as SIS's `NAME`, aren't read.
use Rattle.std.specs.Prelude.{ℕ, ◌&&◌, ◌||◌, not, Bool, true, List, [], ◌∷◌, ◌++◌, length, map}
use Rattle.std.specs.Prelude.{filter, nat_le, bytes_eq, codes, if◌then◌else◌, zero, suc}
use Rattle.std.specs.Prelude.{Option, Some, None, Result, Ok, Err}
use Rattle.std.specs.List.{list_all}
use Rattle.si_base.specs.Faults.{when, ◌otherwise◌, first_in}
use Rattle.si_base.specs.Limits.{max_signals}
use Rattle.si_base.specs.Lines.{numbered}
use Rattle.si_base.specs.Words.{is_signal_name}
use Rattle.si_base.specs.declared.fault.TextKind.{TextKind}
use Rattle.si_base.specs.declared.fault.TextKind.TheVariants.{BadByte, BadName, BadWord, NoEnd}
use Rattle.si_base.specs.declared.fault.TextKind.TheVariants.{Repeated, TooManySignals, Undeclared}
use Rattle.si_words.specs.Ends.{after_last}
use Rattle.si_words.specs.Names.{stands_in}
use Rattle.si_words.specs.Sums.{is_empty}
use Rattle.si_tokens.specs.declared.fault.Stop.{Stop}
use Rattle.si_tokens.specs.declared.fault.Stop.TheVariants.{Cut, Fault}
use Rattle.si_tokens.specs.Unread.{◌>>=◌, Unread, Piece, unread, token_at, tokens, bad_line}
use Rattle.si_genlib.specs.Expression.{Operations, Tree, trees, start, read, truth, value_of}
use Rattle.si_genlib.specs.Gate.{ends_expression}
use Rattle.si_genlib.specs.Statements.{if_passes}
use Rattle.si_equations.specs.Names.{bare, named_value}

-- ---- equations

-- the line where it begins, the signal that it is of, and its expression
pub record Equation : Type 0 where
  pub line : ℕ
  pub name : List ℕ
  pub tree : Tree

pub record Equations : Type 0 where
  pub inputs : List (List ℕ)
  pub outputs : List (List ℕ)
  pub equations : List Equation

abbrev pub driven : Equations → List (List ℕ)
driven e = map (λ q. q.name) e.equations

-- those of these names that are none of the others
abbrev pub without : List (List ℕ) → List (List ℕ) → List (List ℕ)
without others names = filter (λ name. not (stands_in others name)) names

-- those of these signals that are no outputs
abbrev pub internal_among : List (List ℕ) → List (List ℕ) → List (List ℕ)
internal_among outputs names = without outputs names

abbrev pub internal : Equations → List (List ℕ)
internal e = internal_among e.outputs (driven e)

-- the names of all signals, in signal order
abbrev pub signals : Equations → List (List ℕ)
signals e = e.inputs ++ e.outputs ++ internal e

-- the value of an expression, where the signals with these names have the bits of a code
abbrev pub expression_value : List (List ℕ) → ℕ → Tree → Bool
expression_value names values tree =
    value_of (truth (λ name. named_value names values (bare name))) tree

-- ---- statements

-- a token that is this one
unfoldable pub mark_at : List ℕ → Unread → Result Unread Stop
mark_at bytes u = do
  token ← token_at u
  if_passes (bytes_eq bytes token.bytes) BadWord token

-- what is behind the piece, if it has no fault
abbrev pub if_good : Option TextKind → Piece → Result Unread Stop
if_good None piece = Ok piece.rest
if_good (Some kind) piece = Err (Fault piece.line kind)

-- the fault of a name of a list, behind the names of another list and those of its own so far: no
-- signal name; one that its list has already; where the other list hasn't got it, one too many
abbrev pub list_fault : List (List ℕ) → List (List ℕ) → List ℕ → Option TextKind
list_fault others names name =
    when (not (is_signal_name name)) BadName
    otherwise when (stands_in names name) Repeated
    otherwise when (not (stands_in others name)
    && nat_le max_signals (length (others ++ without others names))) TooManySignals

-- the names of a list up to its `;`, behind those of another list and those of its own so far
abbrev pub names_from : List (List ℕ) → List (List ℕ) → List Piece
    → Result (List (List ℕ) × Unread) Stop
names_from others names [] = Err Cut
names_from others names (token ∷ more) =
    if ends_expression token.bytes then Ok (names, token.rest)
    else if_good (list_fault others names (bare token.bytes)) token
    >>= λ rest. names_from others (names ++ bare token.bytes ∷ []) more

-- `WORD = NAMES;`, where the names of another list stand before
unfoldable pub list_at : List ℕ → List (List ℕ) → Unread → Result (List (List ℕ) × Unread) Stop
list_at word others u = do
  equals ← mark_at word u
  names ← mark_at (codes "=") equals
  names_from others [] (tokens names)

-- the inputs are the names of the first list that are no outputs
unfoldable pub lists_at : Unread → Result (Equations × Unread) Stop
lists_at u = do
  listed ← list_at (codes "INORDER") [] u
  outputs ← list_at (codes "OUTORDER") listed.0 listed.1
  Ok (
    record {
      inputs = without outputs.0 listed.0;
      outputs = outputs.0;
      equations = [];
    },
    outputs.1,
  )

-- the fault of the name of an equation, behind the lists and the equations of other signals: no
-- signal name; an input, or a signal that has an equation; one signal too many
abbrev pub equation_fault : List (List ℕ) → List (List ℕ) → List (List ℕ) → List ℕ
    → Option TextKind
equation_fault inputs outputs before name =
    when (not (is_signal_name name)) BadName
    otherwise when (stands_in inputs name || stands_in before name) Repeated
    otherwise when (not (stands_in outputs name)
    && nat_le max_signals (length (inputs ++ outputs ++ internal_among outputs before)))
    TooManySignals

abbrev pub with_equation : Equations → ℕ → List ℕ → Tree → Equations
with_equation e line name tree = record {
  inputs = e.inputs;
  outputs = e.outputs;
  equations = e.equations ++ record { line = line; name = name; tree = tree } ∷ [];
}

-- `NAME = EXPRESSION;`, behind these
unfoldable pub equation_at : Equations → Unread → Result (Equations × Unread) Stop
equation_at old u = do
  name ← token_at u
  equals ← if_good (equation_fault old.inputs old.outputs (driven old) (bare name.bytes)) name
  body ← mark_at (codes "=") equals
  expression ← read trees start (tokens body)
  Ok (with_equation old name.line (bare name.bytes) expression.0, expression.1)

-- the equations of what is left, of which there are fewer than `most`
abbrev pub equations_from : ℕ → Equations → Unread → Result Equations Stop
equations_from zero old u = Err Cut
equations_from (suc most) old u =
    if is_empty (tokens u) then Ok old
    else equation_at old u >>= λ new. equations_from most new.0 new.1

-- each takes at least one token
unfoldable pub statements_at : Unread → Result Equations Stop
statements_at u = do
  lists ← lists_at u
  equations_from (suc (length (tokens lists.1))) lists.0 lists.1

-- ---- texts

-- whether each name of an expression is one of these
abbrev pub known : List (List ℕ) → Operations Bool
known names = record {
  pin = λ name. stands_in names (bare name);
  constant = λ value. true;
  complement = λ operand. operand;
  both = λ left right. left && right;
  either = λ left right. left && right;
}

abbrev pub undeclared : List (List ℕ) → Equation → Option (ℕ × TextKind)
undeclared names q =
    if value_of (known names) q.tree then None else Some (q.line, Undeclared)

abbrev pub has_all_outputs : Equations → Bool
has_all_outputs e = list_all (stands_in (driven e)) e.outputs

-- the first equation with a name that no signal has; else, at the end of the text, an output that
-- has no equation
abbrev pub last_fault : ℕ → Equations → Option (ℕ × TextKind)
last_fault last e =
    first_in (undeclared (signals e)) e.equations
    otherwise (if has_all_outputs e then None else Some (last, Undeclared))

abbrev pub unless : Option (ℕ × TextKind) → Equations → Result Equations (ℕ × TextKind)
unless None e = Ok e
unless (Some fault) e = Err fault

-- where the lines without a bad byte end, the next line, which has one, is a fault; at the end of
-- the text a statement that isn't whole is one
abbrev pub ended : ℕ → Option ℕ → Result Equations Stop → Result Equations (ℕ × TextKind)
ended last bad (Err (Fault line kind)) = Err (line, kind)
ended last (Some line) _ = Err (line, BadByte)
ended last None (Err Cut) = Err (last, NoEnd)
ended last None (Ok e) = unless (last_fault last e) e

-- what the text spells, or its first fault and the line of that
unfoldable pub equations_in : List ℕ → Result Equations (ℕ × TextKind)
equations_in text =
    ended (after_last text) (bad_line (numbered text)) (statements_at (unread text))
