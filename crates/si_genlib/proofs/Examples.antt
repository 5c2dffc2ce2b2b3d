-- Genlib texts with faults, and a text with the library that it spells.
use Rattle.std.proofs.Common.{◌≡◌, ℕ, List, [], ◌∷◌, ◌++◌, true, false, Some, None, codes, refl}
use Rattle.si_base.specs.declared.ids.Literal.{Literal}
use Rattle.si_base.specs.declared.fault.TextKind.TheVariants as kinds
use Rattle.si_cell.specs.Library.{Cell}
use Rattle.si_cell.specs.declared.pins.Pins.TheVariants.{Any}
use Rattle.si_genlib.specs.GenlibText.{genlib_fault, library_of, ported_of, all_kept}
use Rattle.si_genlib.specs.Statements.{name_at, decimal_at, out_at, equals_at, body_at, gate_at, phase_at, pin_at}
use Rattle.si_genlib.specs.Statements.{gate_statement_at, pin_statement_at, statement_at}
use Rattle.si_tokens.specs.Unread.{word, word_at, tokens}
use Rattle.si_genlib.specs.Expression.{step}
use Rattle.si_genlib.specs.Gate.{gate_value, sum_of, cell_of, with_gate}
use Rattle.si_genlib.specs.Ports.{is_port_name, own_ports}

small : List ℕ
small = codes "# small\nGATE inv1 1 O=!a; PIN * INV 1 999 0.9 0.3 0.9 0.3\n"

no_fault : genlib_fault small ≡ None
unfolding small genlib_fault all_kept name_at decimal_at out_at equals_at body_at gate_at phase_at pin_at
    gate_statement_at pin_statement_at statement_at word word_at tokens step gate_value sum_of cell_of with_gate
no_fault = refl

no_operand : genlib_fault (codes "GATE x 1 O=a+;") ≡ Some (1, kinds.BadExpression)
unfolding genlib_fault all_kept name_at decimal_at out_at equals_at body_at gate_at phase_at pin_at
    gate_statement_at pin_statement_at statement_at word word_at tokens step gate_value sum_of cell_of with_gate
no_operand = refl

latch : genlib_fault (codes "LATCH d 1 Q=D;") ≡ Some (1, kinds.Latch)
unfolding genlib_fault all_kept name_at decimal_at out_at equals_at body_at gate_at phase_at pin_at
    gate_statement_at pin_statement_at statement_at word word_at tokens step gate_value sum_of cell_of with_gate
latch = refl

own_falls : genlib_fault (codes "GATE x 1 O=!O*a;") ≡ Some (1, kinds.OwnFalling)
unfolding genlib_fault all_kept name_at decimal_at out_at equals_at body_at gate_at phase_at pin_at
    gate_statement_at pin_statement_at statement_at word word_at tokens step gate_value sum_of cell_of with_gate
own_falls = refl

word_glued : genlib_fault (codes "GATE x 1O=a;") ≡ Some (1, kinds.BadNumber)
unfolding genlib_fault all_kept name_at decimal_at out_at equals_at body_at gate_at phase_at pin_at
    gate_statement_at pin_statement_at statement_at word word_at tokens step gate_value sum_of cell_of with_gate
word_glued = refl

not_closed : genlib_fault (codes "GATE \"x 1 O=a;") ≡ Some (1, kinds.BadGate)
unfolding genlib_fault all_kept name_at decimal_at out_at equals_at body_at gate_at phase_at pin_at
    gate_statement_at pin_statement_at statement_at word word_at tokens step gate_value sum_of cell_of with_gate
not_closed = refl

cut : genlib_fault (codes "GATE x 1 O=\na") ≡ Some (3, kinds.NoEnd)
unfolding genlib_fault all_kept name_at decimal_at out_at equals_at body_at gate_at phase_at pin_at
    gate_statement_at pin_statement_at statement_at word word_at tokens step gate_value sum_of cell_of with_gate
cut = refl

bad_byte : genlib_fault (codes "GATE x 1 O=\n\u{1}") ≡ Some (2, kinds.BadByte)
unfolding genlib_fault all_kept name_at decimal_at out_at equals_at body_at gate_at phase_at pin_at
    gate_statement_at pin_statement_at statement_at word word_at tokens step gate_value sum_of cell_of with_gate
bad_byte = refl

pin_first : genlib_fault (codes "PIN") ≡ Some (1, kinds.BadWord)
unfolding genlib_fault all_kept name_at decimal_at out_at equals_at body_at gate_at phase_at pin_at
    gate_statement_at pin_statement_at statement_at word word_at tokens step gate_value sum_of cell_of with_gate
pin_first = refl

-- ---- a library of several gates
several : List ℕ
several =
    small
    ++ codes "GATE \"1310:nand\" 2.00 O=!(1A*1B);\n  PIN * INV 1 999 1.0 0.2 1.0 0.2\nGATE one 0 O=CONST1;\n"
    ++ codes "GATE aoi 4 O=(a*b+c*d+e*f)';\nGATE C2 3 O=a b + O (a+b); PIN * UNKNOWN 1 999 1 .2 1 .2\n"

plain : ℕ → Literal
plain s = record { sig = s; plain = true }

complemented : ℕ → Literal
complemented s = record { sig = s; plain = false }

inverter : Cell
inverter = record { name = codes "inv1"; pins = codes "p1" ∷ []; sum = (complemented 0 ∷ []) ∷ [] }

nand : Cell
nand = record {
  name = codes "_1310_nand";
  pins = codes "p1" ∷ codes "p2" ∷ [];
  sum = (complemented 1 ∷ []) ∷ (complemented 0 ∷ []) ∷ [];
}

one : Cell
one = record { name = codes "one"; pins = []; sum = [] ∷ [] }

c_element : Cell
c_element = record {
  name = codes "C2";
  pins = codes "p1" ∷ codes "p2" ∷ [];
  sum = (plain 0 ∷ plain 1 ∷ []) ∷ (plain 0 ∷ plain 2 ∷ []) ∷ (plain 1 ∷ plain 2 ∷ []) ∷ [];
}

-- the gate of six pins is passed over, and `O` in the last one is its own output
several_spell : library_of several ≡ record {
  name = codes "genlib";
  cells = inverter ∷ nand ∷ one ∷ c_element ∷ [];
  pins = Any;
}
unfolding small several inverter nand one c_element plain complemented library_of all_kept name_at decimal_at out_at
    equals_at body_at gate_at phase_at pin_at gate_statement_at pin_statement_at statement_at word word_at
    tokens step gate_value sum_of cell_of with_gate
several_spell = refl

-- ---- ports
inverter_ports : own_ports inverter ≡ record { pins = codes "p1" ∷ []; output = codes "q" }
unfolding inverter
inverter_ports = refl

names_of_bytes : (is_port_name (codes "1A") ≡ true) × (is_port_name (codes "out[2]") ≡ true)
names_of_bytes = (refl, refl)

no_other_bytes : (is_port_name [] ≡ false) × (is_port_name (codes "a$b") ≡ false)
no_other_bytes = (refl, refl)

-- they are those of the text, and a gate that is passed over has none
several_ports : (ported_of several).ports ≡
    record { pins = codes "a" ∷ []; output = codes "O" }
    ∷ record { pins = codes "1A" ∷ codes "1B" ∷ []; output = codes "O" }
    ∷ record { pins = []; output = codes "O" }
    ∷ record { pins = codes "a" ∷ codes "b" ∷ []; output = codes "O" } ∷ []
unfolding small several ported_of all_kept name_at decimal_at out_at equals_at body_at gate_at phase_at pin_at
    gate_statement_at pin_statement_at statement_at word word_at tokens step gate_value sum_of cell_of with_gate
several_ports = refl
