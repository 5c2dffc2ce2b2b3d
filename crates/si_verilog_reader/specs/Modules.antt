-- (text) A text of modules of Verilog, as equations: what it spells, or its first fault.
--
--     module C2(
--       input a,
--       input b,
--       input q$in,
--       output q
--     );
--       assign q = (a & b) | (q$in & (a | b));
--     endmodule
--     module passing(
--       input r,
--       output z
--     );
--       wire x;
--       C2 meet(.a(r), .b(x), .q$in(z), .q(z));
--       assign x = ~z;
--     endmodule
--
-- The last module is the circuit. Each before it is a cell, with one assign, which is that of its
-- only output. Each assign of the circuit is an equation, and so is each instance of a cell: that
-- of the signal at the output, with the cell's expression over the signals at its other ports. A
-- signal that has an equation and is no port is internal, whether or not a `wire` declares it;
-- nothing more is known from a `wire`, nor from the names of instances and that of the circuit. In
-- expressions `~` binds before `&`, and that before `|`.
use Rattle.std.specs.Prelude.{ℕ, ◌==◌, ◌-◌, not, Bool, true, false, List, [], ◌∷◌, ◌++◌, length, map}
use Rattle.std.specs.Prelude.{bytes_eq, codes, count_by, nat_le, nat_lt, if◌then◌else◌, zero, suc}
use Rattle.std.specs.Prelude.{Option, None, Result, Ok, Err}
use Rattle.std.specs.List.{prefix_len}
use Rattle.si_base.specs.Bytes.{closing_parenthesis, dot, equals_sign, opening_parenthesis}
use Rattle.si_base.specs.Bytes.{semicolon}
use Rattle.si_base.specs.Faults.{when, ◌otherwise◌}
use Rattle.si_base.specs.Limits.{max_signals}
use Rattle.si_base.specs.Words.{is_signal_name}
use Rattle.si_base.specs.declared.fault.TextKind.{TextKind}
use Rattle.si_base.specs.declared.fault.TextKind.TheVariants.{BadName, BadWord, Repeated}
use Rattle.si_base.specs.declared.fault.TextKind.TheVariants.{TooDeep, TooManyCells, TooManySignals}
use Rattle.si_base.specs.declared.fault.TextKind.TheVariants.{Undeclared}
use Rattle.si_cell.specs.Limits.{max_cells}
use Rattle.si_words.specs.Ends.{after_last}
use Rattle.si_words.specs.Names.{name_fault, stands_in}
use Rattle.si_tokens.specs.declared.fault.Stop.{Stop}
use Rattle.si_tokens.specs.declared.fault.Stop.TheVariants.{Fault}
use Rattle.si_tokens.specs.Unread.{◌>>=◌}
use Rattle.si_genlib.specs.Expression.{Operations, Tree, Pin, trees, value_of}
use Rattle.si_equations.specs.Equations.{Equations, driven, ended, equation_fault, with_equation}
use Rattle.si_verilog.specs.Symbols.{Symbol, Name, Word, Mark}
use Rattle.si_verilog_reader.specs.Limits.{max_symbols}
use Rattle.si_verilog_reader.specs.Placed.{Placed, placed_symbols}
use Rattle.si_verilog_reader.specs.Parts.{Reading, Named, if_good, next, due, name_at, all_parts}
use Rattle.si_verilog_reader.specs.Parts.{list_at, same_symbol}
use Rattle.si_verilog_reader.specs.Expressions.{expression_at}

-- ---- heads: `module NAME(PORTS);`

pub record Ports : Type 0 where
  pub inputs : List (List ℕ)
  pub outputs : List (List ℕ)

abbrev pub no_ports : Ports
no_ports = record { inputs = []; outputs = [] }

abbrev pub all_ports : Ports → List (List ℕ)
all_ports ports = ports.inputs ++ ports.outputs

abbrev pub with_port : (is_input : Bool) → List ℕ → Ports → Ports
with_port true name ports =
    record { inputs = ports.inputs ++ name ∷ []; outputs = ports.outputs }
with_port false name ports =
    record { inputs = ports.inputs; outputs = ports.outputs ++ name ∷ [] }

-- whether `input` stands there, or `output`
abbrev pub direction : ℕ → Symbol → Result Bool Stop
direction line (Word word) =
    if bytes_eq (codes "input") word then Ok true
    else if bytes_eq (codes "output") word then Ok false
    else Err (Fault line BadWord)
direction line _ = Err (Fault line BadWord)

-- `input NAME` or `output NAME`, behind these ports
unfoldable pub port_at : (List (List ℕ) → List ℕ → Option TextKind) → Ports → List Placed
    → Reading Ports
port_at fault ports ps = do
  word ← next ps
  is_input ← direction word.0.line word.0.symbol
  name ← name_at word.1
  if_good name.0.line (fault (all_ports ports) name.0.name)
      (with_port is_input name.0.name ports, name.1)

-- `module NAME(`
unfoldable pub head_at : List Placed → Reading Named
head_at ps = do
  behind ← due (Word (codes "module")) ps
  name ← name_at behind
  opened ← due (Mark opening_parenthesis) name.1
  Ok (name.0, opened)

-- `PORTS);`
unfoldable pub ports_at : (List (List ℕ) → List ℕ → Option TextKind) → List Placed → Reading Ports
ports_at fault ps = do
  ports ← list_at (port_at fault) no_ports ps
  rest ← due (Mark semicolon) ports.1
  Ok (ports.0, rest)

-- ---- assigns

pub record Assign : Type 0 where
  pub line : ℕ
  pub name : List ℕ
  pub tree : Tree

-- `NAME = EXPRESSION;`, behind `assign`
unfoldable pub assign_at : (List ℕ → Option TextKind) → List Placed → Reading Assign
assign_at fault ps = do
  name ← name_at ps
  body ← due (Mark equals_sign) name.1
  expression ← expression_at fault body
  Ok (record { line = name.0.line; name = name.0.name; tree = expression.0 }, expression.1)

-- ---- cells

pub record Cell : Type 0 where
  pub name : List ℕ
  pub ports : List (List ℕ)
  pub output : List ℕ
  pub tree : Tree

abbrev pub begins_module : Placed → Bool
begins_module p = same_symbol (Word (codes "module")) p.symbol

-- how many symbols stand before the next module
abbrev pub size : List Placed → ℕ
size ps = prefix_len (λ p. not (begins_module p)) ps

-- the fault of a cell of this name and size, behind those of these names
abbrev pub cell_fault : List (List ℕ) → List ℕ → ℕ → Option TextKind
cell_fault names name size =
    when (stands_in names name) Repeated
    otherwise when (nat_le max_cells (length names)) TooManyCells
    otherwise when (nat_lt max_symbols size) TooDeep

-- that of a port of a cell, behind others
abbrev pub port_fault : List (List ℕ) → List ℕ → Option TextKind
port_fault names name =
    when (stands_in names name) Repeated
    otherwise when (nat_le max_signals (length names)) TooManySignals

-- that of a name that has to be one of these
abbrev pub other_fault : List (List ℕ) → List ℕ → Option TextKind
other_fault names name = when (not (stands_in names name)) Undeclared

abbrev pub is_only : List (List ℕ) → List ℕ → Bool
is_only (n ∷ []) name = bytes_eq n name
is_only _ name = false

-- a module with one output and its assign, behind other cells
unfoldable pub cell_at : List Cell → List Placed → Reading Cell
cell_at cells ps = do
  head ← head_at ps
  opened ← if_good head.0.line
      (cell_fault (map (λ c. c.name) cells) head.0.name (size head.1)) head.1
  ports ← ports_at port_fault opened
  body ← due (Word (codes "assign")) ports.1
  assign ← assign_at (other_fault (all_ports ports.0)) body
  ended ← if_good assign.0.line
      (when (not (is_only ports.0.outputs assign.0.name)) Undeclared) assign.1
  rest ← due (Word (codes "endmodule")) ended
  Ok (
    record {
      name = head.0.name;
      ports = all_ports ports.0;
      output = assign.0.name;
      tree = assign.0.tree;
    },
    rest,
  )

-- so many, one after another
abbrev pub cells_at : ℕ → List Cell → List Placed → Reading (List Cell)
cells_at zero cells ps = Ok (cells, ps)
cells_at (suc more) cells ps = do
  cell ← cell_at cells ps
  cells_at more (cells ++ cell.0 ∷ []) cell.1

-- ---- instances of cells

-- the port is connected to the net
pub record Connection : Type 0 where
  pub port : List ℕ
  pub net : List ℕ

-- the net of a port; that of a port that isn't connected has no name
abbrev pub net_of : List Connection → List ℕ → List ℕ
net_of [] port = []
net_of (c ∷ cs) port = if bytes_eq c.port port then c.net else net_of cs port

-- trees with the nets in place of the ports
abbrev pub connected : List Connection → Operations Tree
connected connections = record {
  pin = λ port. Pin (net_of connections port);
  constant = trees.constant;
  complement = trees.complement;
  both = trees.both;
  either = trees.either;
}

-- the fault of a signal's name
abbrev pub signal_fault : List ℕ → Option TextKind
signal_fault name = when (not (is_signal_name name)) BadName

-- that of the next port that is connected: it isn't one of these, or is connected already
abbrev pub connection_fault : (ports : List (List ℕ)) → List Connection → List ℕ → Option TextKind
connection_fault ports connections port =
    other_fault ports port
    otherwise when (stands_in (map (λ c. c.port) connections) port) Repeated

-- `.PORT(NET)`, behind other connections
unfoldable pub connection_at : (ports : List (List ℕ)) → List Connection → List Placed
    → Reading (List Connection)
connection_at ports connections ps = do
  dotted ← due (Mark dot) ps
  port ← name_at dotted
  behind ← if_good port.0.line (connection_fault ports connections port.0.name) port.1
  opened ← due (Mark opening_parenthesis) behind
  net ← name_at opened
  inner ← if_good net.0.line (signal_fault net.0.name) net.1
  rest ← due (Mark closing_parenthesis) inner
  Ok (connections ++ record { port = port.0.name; net = net.0.name } ∷ [], rest)

-- the first cell of the name
abbrev pub cell_named : ℕ → List Cell → List ℕ → Result Cell Stop
cell_named line [] name = Err (Fault line Undeclared)
cell_named line (c ∷ cs) name = if bytes_eq c.name name then Ok c else cell_named line cs name

-- `NAME(CONNECTIONS);`, behind a cell's name: each port is connected
unfoldable pub connections_at : ℕ → (ports : List (List ℕ)) → List Placed
    → Reading (List Connection)
connections_at line ports ps = do
  name ← name_at ps
  opened ← due (Mark opening_parenthesis) name.1
  connections ← list_at (connection_at ports) [] opened
  rest ← due (Mark semicolon) connections.1
  if_good line (when (not (length connections.0 == length ports)) Undeclared)
      (connections.0, rest)

-- ---- the circuit

-- with the equation of one more signal
abbrev pub with_signal : Equations → ℕ → List ℕ → Tree → Result Equations Stop
with_signal e line name tree =
    if_good line (equation_fault e.inputs e.outputs (driven e) name)
    (with_equation e line name tree)

unfoldable pub assign_behind : Equations → List Placed → Reading Equations
assign_behind e ps = do
  assign ← assign_at signal_fault ps
  new ← with_signal e assign.0.line assign.0.name assign.0.tree
  Ok (new, assign.1)

unfoldable pub instance_behind : List Cell → Equations → ℕ → List ℕ → List Placed
    → Reading Equations
instance_behind cells e line name ps = do
  cell ← cell_named line cells name
  connections ← connections_at line cell.ports ps
  new ← with_signal e line (net_of connections.0 cell.output)
      (value_of (connected connections.0) cell.tree)
  Ok (new, connections.1)

-- `NAME;`, behind `wire`
unfoldable pub wire_behind : Equations → List Placed → Reading Equations
wire_behind e ps = do
  name ← name_at ps
  rest ← due (Mark semicolon) name.1
  Ok (e, rest)

-- one more item follows
abbrev pub and_more : Reading Equations → Reading (Bool × Equations)
and_more (Ok read) = Ok ((true, read.0), read.1)
and_more (Err stop) = Err stop

-- behind its first symbol
abbrev pub item_behind : List Cell → Equations → ℕ → Symbol → List Placed
    → Reading (Bool × Equations)
item_behind cells e line (Name name) ps = and_more (instance_behind cells e line name ps)
item_behind cells e line (Word word) ps =
    if bytes_eq (codes "wire") word then and_more (wire_behind e ps)
    else if bytes_eq (codes "assign") word then and_more (assign_behind e ps)
    else if bytes_eq (codes "endmodule") word then Ok ((false, e), ps)
    else Err (Fault line BadWord)
item_behind cells e line (Mark byte) ps = Err (Fault line BadWord)

unfoldable pub item_at : List Cell → Equations → List Placed → Reading (Bool × Equations)
item_at cells e ps = do
  first ← next ps
  item_behind cells e first.0.line first.0.symbol first.1

abbrev pub no_equations : Ports → Equations
no_equations ports =
    record { inputs = ports.inputs; outputs = ports.outputs; equations = [] }

-- nothing stands behind the last module
abbrev pub at_end : Equations → List Placed → Result Equations Stop
at_end e [] = Ok e
at_end e (p ∷ ps) = Err (Fault p.line BadWord)

unfoldable pub circuit_at : List Cell → List Placed → Result Equations Stop
circuit_at cells ps = do
  head ← head_at ps
  ports ← ports_at (name_fault max_signals) head.1
  items ← all_parts (item_at cells) (no_equations ports.0) ports.1
  at_end items.0 items.1

-- ---- texts

-- how many modules begin
abbrev pub modules : List Placed → ℕ
modules ps = count_by begins_module ps

unfoldable pub modules_at : List Placed → Result Equations Stop
modules_at ps = do
  cells ← cells_at (modules ps - 1) [] ps
  circuit_at cells.0 cells.1

-- what the text spells, or its first fault and the line of that; at the end of the text come the
-- faults of equations
unfoldable pub modules_in : List ℕ → Result Equations (ℕ × TextKind)
modules_in text = ended (after_last text) None (modules_at (placed_symbols text))
