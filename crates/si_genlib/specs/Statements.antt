-- (text) Statements of a genlib text.
use Rattle.std.specs.Prelude.{ℕ, ◌+◌, ◌==◌, ◌&&◌, ◌||◌, not, Bool, true, false, List, [], length}
use Rattle.std.specs.Prelude.{take, drop, nat_le, bytes_eq, codes, if◌then◌else◌, zero, suc, Result}
use Rattle.std.specs.Prelude.{Ok, Err}
use Rattle.std.specs.List.{prefix_len}
use Rattle.si_base.specs.Lines.{begins}
use Rattle.si_base.specs.declared.fault.TextKind.{TextKind}
use Rattle.si_base.specs.declared.fault.TextKind.TheVariants.{BadGate, BadNumber, BadPin, BadWord}
use Rattle.si_base.specs.declared.fault.TextKind.TheVariants.{Latch}
use Rattle.si_base.specs.Bytes.{double_quote}
use Rattle.si_words.specs.Sums.{is_empty}
use Rattle.si_cell.specs.Library.{Cell}
use Rattle.si_tokens.specs.declared.fault.Stop.{Stop}
use Rattle.si_tokens.specs.declared.fault.Stop.TheVariants.{Cut, Fault}
use Rattle.si_tokens.specs.Unread.{◌>>=◌, Unread, Piece, to_next, word_here, if_there, word}
use Rattle.si_tokens.specs.Unread.{word_at, token_at, tokens}
use Rattle.si_tokens.specs.Decimal.{is_decimal}
use Rattle.si_genlib.specs.Expression.{trees, start, read, is_name}
use Rattle.si_genlib.specs.Gate.{Gate, no_pins, pins_from, with_gate, with_ports}
use Rattle.si_genlib.specs.Ports.{Ports}

-- what is behind the piece, if it passes
abbrev pub if_passes : Bool → TextKind → Piece → Result Unread Stop
if_passes passes kind piece = if passes then Ok piece.rest else Err (Fault piece.line kind)

-- ---- the parts of `GATE NAME AREA OUT = EXPRESSION ;`

-- how many bytes stand before the next double quote
abbrev pub quoted_len : List ℕ → ℕ
quoted_len bytes = prefix_len (λ b. not (b == double_quote)) bytes

-- a name behind a double quote, up to the next one on its line
abbrev pub quoted : Unread → Result (List ℕ × Unread) Stop
quoted u = if (quoted_len u.here == 0) || nat_le (length u.here) (quoted_len u.here)
    then Err (Fault u.number BadGate)
    else Ok (
      take (quoted_len u.here) u.here,
      record {
        number = u.number;
        here = drop (quoted_len u.here + 1) u.here;
        lines = u.lines;
      },
    )

abbrev pub name_of_word : Piece → Result (List ℕ × Unread) Stop
name_of_word piece = if_there piece >>= λ p. Ok (p.bytes, p.rest)

abbrev pub name_here : Unread → Result (List ℕ × Unread) Stop
name_here u = if begins (λ b. b == double_quote) u.here then quoted (record {
  number = u.number;
  here = drop 1 u.here;
  lines = u.lines;
})
    else name_of_word (word_here u)

unfoldable pub name_at : Unread → Result (List ℕ × Unread) Stop
name_at u = name_here (to_next u)

unfoldable pub decimal_at : Unread → Result Unread Stop
decimal_at u = do
  number ← word_at u
  if_passes (is_decimal number.bytes) BadNumber number

-- the name of the own output
unfoldable pub out_at : Unread → Result (List ℕ × Unread) Stop
out_at u = do
  out ← token_at u
  rest ← if_passes (is_name out.bytes) BadGate out
  Ok (out.bytes, rest)

unfoldable pub equals_at : Unread → Result Unread Stop
equals_at u = do
  equals ← token_at u
  if_passes (bytes_eq (codes "=") equals.bytes) BadGate equals

-- the gate of this name and own output, from its expression on
unfoldable pub body_at : ℕ → List ℕ → List ℕ → Unread → Result (Gate × Unread) Stop
body_at line name out u = do
  expression ← read trees start (tokens u)
  Ok (
    record {
      line = line;
      name = name;
      out = out;
      pins = pins_from out no_pins (tokens u);
      tree = expression.0;
    },
    expression.1,
  )

-- a gate whose statement begins at this line, behind its first word
unfoldable pub gate_at : ℕ → Unread → Result (Gate × Unread) Stop
gate_at line u = do
  name ← name_at u
  area ← decimal_at name.1
  out ← out_at area
  body ← equals_at out.1
  body_at line name.0 out.0 body

-- ---- the parts of `PIN NAME PHASE` and six decimal words

abbrev pub is_phase : List ℕ → Bool
is_phase bytes = bytes_eq (codes "INV") bytes || bytes_eq (codes "NONINV") bytes
    || bytes_eq (codes "UNKNOWN") bytes

unfoldable pub phase_at : Unread → Result Unread Stop
phase_at u = do
  phase ← word_at u
  if_passes (is_phase phase.bytes) BadPin phase

abbrev pub decimals_at : ℕ → Unread → Result Unread Stop
decimals_at zero u = Ok u
decimals_at (suc n) u = do
  rest ← decimal_at u
  decimals_at n rest

unfoldable pub pin_at : Unread → Result Unread Stop
pin_at u = do
  name ← word_at u
  rest ← phase_at name.rest
  decimals_at 6 rest

-- ---- statements

-- the cells so far, the names of their ports, and whether a gate stands before
pub record Progress : Type 0 where
  pub cells : List Cell
  pub ports : List Ports
  pub begun : Bool

abbrev pub nothing_yet : Progress
nothing_yet = record { cells = []; ports = []; begun = false }

abbrev pub word_kind : List ℕ → TextKind
word_kind bytes = if bytes_eq (codes "LATCH") bytes then Latch else BadWord

-- behind the word `GATE` of this line
unfoldable pub gate_statement_at : Progress → ℕ → Unread → Result (Progress × Unread) Stop
gate_statement_at old line u = do
  gate ← gate_at line u
  cells ← with_gate old.cells gate.0
  Ok (record { cells = cells; ports = with_ports old.ports gate.0; begun = true }, gate.1)

-- behind the word `PIN`
unfoldable pub pin_statement_at : Progress → Unread → Result (Progress × Unread) Stop
pin_statement_at old u = do
  rest ← pin_at u
  Ok (old, rest)

-- one statement, which begins with this word
unfoldable pub statement_at : Progress → Piece → Result (Progress × Unread) Stop
statement_at old first =
    if bytes_eq (codes "GATE") first.bytes then gate_statement_at old first.line first.rest
    else if bytes_eq (codes "PIN") first.bytes && old.begun then pin_statement_at old first.rest
    else Err (Fault first.line (word_kind first.bytes))

-- what is kept of the statements of what is left, of which there are fewer than `most`
abbrev pub kept_from : ℕ → Progress → Unread → Result Progress Stop
kept_from zero old u = Err Cut
kept_from (suc most) old u =
    if is_empty (word u).bytes then Ok old
    else statement_at old (word u) >>= λ new. kept_from most new.0 new.1
