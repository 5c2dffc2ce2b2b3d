-- Worked examples of names, symbols, expressions and the text of a module.
use Rattle.std.proofs.Common.{◌≡◌, ℕ, true, false, List, [], ◌∷◌, ◌++◌, refl, codes}
use Rattle.si_base.specs.Bytes.{tilde, semicolon, opening_parenthesis, closing_parenthesis}
use Rattle.si_base.specs.Bytes.{ampersand}
use Rattle.si_base.specs.declared.graph.Signal.{Signal}
use Rattle.si_base.specs.declared.graph.SigKind.{SigKind}
use Rattle.si_base.specs.declared.graph.SigKind.TheVariants.{Input, Output, Inserted}
use Rattle.si_base.specs.declared.ids.Literal.{Literal}
use Rattle.si_base.specs.Netlist.{SumGate, Gc, Netlist}
use Rattle.si_verilog.specs.Keywords.{keywords, is_keyword}
use Rattle.si_verilog.specs.Symbols.{Symbol, Name, Word, Mark, symbols_of}
use Rattle.si_verilog.specs.Grammar.{Named, Not, And, Or, Expression, Spells, named}
use Rattle.si_verilog.specs.Grammar.{as_factor, complemented, as_term, with_factor, as_expression, with_term}
use Rattle.si_verilog.specs.Grammar.{bar}
use Rattle.si_verilog.specs.Meaning.{named_value}
use Rattle.si_verilog.specs.ModuleText.{verilog_name, gate_text, verilog_text}

-- ---- names: plain with a capital or one byte, else escaped, as a keyword is

plain_name : verilog_name (codes "DSr") ≡ codes "DSr"
unfolding verilog_name
plain_name = refl

short_name : verilog_name (codes "_") ≡ codes "_"
unfolding verilog_name
short_name = refl

keyword_name : verilog_name (codes "wire") ≡ codes "\\wire "
unfolding verilog_name
keyword_name = refl

dotted_name : verilog_name (codes "X.y") ≡ codes "\\X.y "
unfolding verilog_name
dotted_name = refl

wire_is_kept : is_keyword (codes "wire") ≡ true
unfolding is_keyword keywords
wire_is_kept = refl

-- ---- symbols: a plain and an escaped name are one name; a backslash inside belongs to the name

two_forms : symbols_of (codes "~\\D  | D") ≡ Mark tilde ∷ Name (codes "D") ∷ Mark bar ∷ Name (codes "D") ∷ []
unfolding symbols_of is_keyword keywords
two_forms = refl

odd_name : symbols_of (codes "\\a|\\b ;") ≡ Name (codes "a|\\b") ∷ Mark semicolon ∷ []
unfolding symbols_of is_keyword keywords
odd_name = refl

a_number : symbols_of (codes "(1'b0)") ≡ Mark opening_parenthesis ∷ Word (codes "1'b0") ∷ Mark closing_parenthesis ∷ []
unfolding symbols_of is_keyword keywords
a_number = refl

-- ---- expressions: `~` before `&`, `&` before `|`

abbrev a : List ℕ
a = codes "a"

abbrev b : List ℕ
b = codes "b"

abbrev c : List ℕ
c = codes "c"

abbrev mixed : List Symbol
mixed = Name a ∷ Mark bar ∷ Name b ∷ Mark ampersand ∷ Mark tilde ∷ Name c ∷ []

mixed_read : symbols_of (codes "a | b & ~c") ≡ mixed
unfolding symbols_of is_keyword keywords
mixed_read = refl

mixed_tree : Spells Expression mixed (Or (Named a) (And (Named b) (Not (Named c))))
mixed_tree = with_term (as_expression (as_term (as_factor (named a))))
    (with_factor (as_term (as_factor (named b))) (complemented (named c)))

-- ---- Muller's C-element as a generalised one

abbrev signal : List ℕ → SigKind → Signal
signal name kind = record { name = name; kind = kind }

abbrev plain : ℕ → Literal
plain sig = record { sig = sig; plain = true }

abbrev complement : ℕ → Literal
complement sig = record { sig = sig; plain = false }

abbrev c_signals : List Signal
c_signals = signal a Input ∷ signal b Input ∷ signal c Output ∷ []

c_element : gate_text c_signals c (Gc ((plain 0 ∷ plain 1 ∷ []) ∷ []) ((complement 0 ∷ complement 1 ∷ []) ∷ []))
    ≡ codes "((a & b)) | (c & ~((~a & ~b)))"
unfolding verilog_name
c_element = refl

c_is_bit_two : named_value c_signals 4 c ≡ true
c_is_bit_two = refl

-- ---- the VME read cycle

abbrev vme : Netlist
vme = record {
  model = codes "vme";
  signals = signal (codes "DSr") Input ∷ signal (codes "LDTACK") Input ∷ signal (codes "D") Output
      ∷ signal (codes "DTACK") Output ∷ signal (codes "LDS") Output ∷ signal (codes "csc0") Inserted ∷ [];
  start = 32;
  inserts = record { name = codes "csc0"; up = codes "s6" ∷ []; down = codes "s1" ∷ [] } ∷ [];
  gates = SumGate ((plain 1 ∷ complement 5 ∷ []) ∷ []) ∷ SumGate ((plain 2 ∷ []) ∷ [])
      ∷ SumGate ((complement 5 ∷ []) ∷ (plain 2 ∷ []) ∷ [])
      ∷ SumGate ((complement 0 ∷ []) ∷ (plain 1 ∷ plain 5 ∷ []) ∷ []) ∷ [];
}

vme_text : verilog_text vme ≡
    codes "module \\vme (\n"
    ++ codes "  input DSr,\n"
    ++ codes "  input LDTACK,\n"
    ++ codes "  output D,\n"
    ++ codes "  output DTACK,\n"
    ++ codes "  output LDS\n"
    ++ codes ");\n"
    ++ codes "  wire \\csc0 ;\n"
    ++ codes "  assign D = (LDTACK & ~\\csc0 );\n"
    ++ codes "  assign DTACK = D;\n"
    ++ codes "  assign LDS = ~\\csc0  | D;\n"
    ++ codes "  assign \\csc0  = ~DSr | (LDTACK & \\csc0 );\n"
    ++ codes "endmodule\n"
unfolding verilog_text verilog_name
vme_text = refl
