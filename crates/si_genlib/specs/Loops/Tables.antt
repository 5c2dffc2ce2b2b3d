-- Truth tables of expressions of at most four pins and the own output: bit i of a table is
-- the value where the pins have the values of the first four bits of i, and the own output that of
-- the next.
use Rattle.std.specs.Prelude.{ℕ, ◌==◌, List, bytes_eq, if◌then◌else◌, position, unwrap_or, bit_and}
use Rattle.std.specs.Prelude.{bit_or, ◌-◌, ◌+◌, ◌*◌, ◌/◌, ◌%◌, ◌^◌, Bool, Result, Ok, Err}
use Rattle.si_tokens.specs.declared.fault.Stop.{Stop}
use Rattle.si_tokens.specs.Unread.{Unread}
use Rattle.si_base.specs.Bits.{bit}
use Rattle.si_genlib.specs.Expression.{Operations, value_of}
use Rattle.si_genlib.specs.Gate.{Gate, Pins}

abbrev pub all_ones : ℕ
all_ones = 0xFFFF_FFFF

-- the table of the k-th of the five
abbrev pub variable : ℕ → ℕ
variable k =
    if k == 0 then 0xAAAA_AAAA
    else if k == 1 then 0xCCCC_CCCC
    else if k == 2 then 0xF0F0_F0F0
    else if k == 3 then 0xFF00_FF00
    else 0xFFFF_0000

-- the place among the five: what isn't among the names of the pins stands behind all four
abbrev pub slot : List (List ℕ) → List ℕ → ℕ
slot names name = unwrap_or (position (λ n. bytes_eq name n) names) 4

abbrev pub tables : List (List ℕ) → Operations ℕ
tables names = record {
  pin = λ name. variable (slot names name);
  constant = λ value. if value then all_ones else 0;
  complement = λ t. all_ones - t;
  both = λ t u. bit_and t u;
  either = λ t u. bit_or t u;
}

-- a gate with the table of its expression in place of the tree
pub record TabledGate : Type 0 where
  pub line : ℕ
  pub name : List ℕ
  pub out : List ℕ
  pub pins : Pins
  pub table : ℕ

abbrev pub tabled : Gate → TabledGate
tabled gate = record {
  line = gate.line;
  name = gate.name;
  out = gate.out;
  pins = gate.pins;
  table = value_of (tables gate.pins.names) gate.tree;
}

-- what is read of a gate, with its table
abbrev pub with_table : Result (Gate × Unread) Stop → Result (TabledGate × Unread) Stop
with_table (Ok g) = Ok (tabled g.0, g.1)
with_table (Err stop) = Err stop

-- the value of a table at the code of so many pins and the own output
abbrev pub table_value : ℕ → ℕ → ℕ → Bool
table_value count table code = bit table (code % 2 ^ count + 16 * (code / 2 ^ count))
