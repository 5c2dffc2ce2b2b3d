-- Texts of modules with faults and without.
use Rattle.std.proofs.Common.{◌≡◌, ℕ, List, [], ◌∷◌, ◌++◌, Option, None, Ok, Err, codes, refl}
use Rattle.si_base.specs.declared.fault.TextKind.{TextKind}
use Rattle.si_base.specs.declared.fault.TextKind.TheVariants as kinds
use Rattle.si_genlib.specs.Expression.{step, Tree, Pin, Not, And, Or}
use Rattle.si_equations.specs.Equations.{Equation}
use Rattle.si_verilog.specs.Keywords.{keywords, is_keyword}
use Rattle.si_verilog_reader.specs.Placed.{placed_symbols}
use Rattle.si_verilog_reader.specs.Parts.{due, name_at, all_parts, goes_on, part_of_list, list_at}
use Rattle.si_verilog_reader.specs.Expressions.{stepped, expression_at}
use Rattle.si_verilog_reader.specs.Modules.{port_at, head_at, ports_at, assign_at, cell_at, connection_at}
use Rattle.si_verilog_reader.specs.Modules.{connections_at, assign_behind, instance_behind, wire_behind, item_at}
use Rattle.si_verilog_reader.specs.Modules.{circuit_at, modules_at, modules_in}

abbrev a : List ℕ
a = codes "a"

abbrev b : List ℕ
b = codes "b"

abbrev c : List ℕ
c = codes "c"

abbrev r : List ℕ
r = codes "r"

abbrev x : List ℕ
x = codes "x"

abbrev z : List ℕ
z = codes "z"

-- ---- expressions: `~` before `&`, `&` before `|`

abbrev good : List ℕ → Option TextKind
good name = None

mixed : expression_at good (placed_symbols (codes "a & ~b | c;"))
    ≡ Ok (Or (And (Pin a) (Not (Pin b))) (Pin c), [])
unfolding expression_at stepped step placed_symbols is_keyword keywords
mixed = refl

from_the_left : expression_at good (placed_symbols (codes "a | (b | c);"))
    ≡ Ok (Or (Pin a) (Or (Pin b) (Pin c)), [])
unfolding expression_at stepped step placed_symbols is_keyword keywords
from_the_left = refl

-- ---- a cell, Muller's C-element, and a circuit with an instance of it

abbrev cell : List ℕ
cell = codes "module C2(\n  input a,\n  input b,\n  input q$in,\n  output q\n);\n"
    ++ codes "  assign q = (a & b) | (q$in & (a | b));\nendmodule\n"

abbrev circuit : List ℕ
circuit = codes "module passing(\n  input r,\n  output z\n);\n  wire x;\n"
    ++ codes "  C2 meet(.a(r), .b(x), .q$in(z), .q(z));\n  assign x = ~z;\nendmodule\n"

abbrev equation : ℕ → List ℕ → Tree → Equation
equation line name tree = record { line = line; name = name; tree = tree }

instance_read : modules_in (cell ++ circuit) ≡ Ok (record {
  inputs = r ∷ [];
  outputs = z ∷ [];
  equations = equation 14 z (Or (And (Pin r) (Pin x)) (And (Pin z) (Or (Pin r) (Pin x))))
      ∷ equation 15 x (Not (Pin z)) ∷ [];
})
unfolding modules_in modules_at cell_at circuit_at head_at ports_at port_at list_at part_of_list goes_on
    all_parts due name_at assign_at expression_at stepped step item_at wire_behind assign_behind instance_behind
    connections_at connection_at placed_symbols is_keyword keywords
instance_read = refl

-- ---- faults

abbrev head : List ℕ
head = codes "module m(\n  input a,\n  input b,\n  output z\n);\n"

-- no operand stands right behind another
two_operands : modules_in (head ++ codes "  assign z = a b;\nendmodule\n") ≡ Err (6, kinds.BadExpression)
unfolding modules_in modules_at circuit_at head_at ports_at port_at list_at part_of_list goes_on all_parts due
    name_at assign_at expression_at stepped step item_at assign_behind placed_symbols is_keyword keywords
two_operands = refl

-- an output without an assign is a fault at the end of the text
no_assign : modules_in (head ++ codes "endmodule\n") ≡ Err (7, kinds.Undeclared)
unfolding modules_in modules_at circuit_at head_at ports_at port_at list_at part_of_list goes_on all_parts due
    name_at item_at placed_symbols is_keyword keywords
no_assign = refl

-- so is a module that isn't ended
no_end : modules_in (head ++ codes "  assign z = a & b;\n") ≡ Err (7, kinds.NoEnd)
unfolding modules_in modules_at circuit_at head_at ports_at port_at list_at part_of_list goes_on all_parts due
    name_at assign_at expression_at stepped step item_at assign_behind placed_symbols is_keyword keywords
no_end = refl

-- a keyword is no name
keyword : modules_in (codes "module join(\n);\nendmodule\n") ≡ Err (1, kinds.BadWord)
unfolding modules_in modules_at circuit_at head_at due name_at placed_symbols is_keyword keywords
keyword = refl
