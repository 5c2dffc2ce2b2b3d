-- Worked examples: a latch that starts at 1, and one that starts at 0, with a reset input.
use Rattle.std.proofs.Common.{◌≡◌, ℕ, true, false, List, [], ◌∷◌, ◌++◌, refl, codes}
use Rattle.si_base.specs.declared.ids.Literal.{Literal}
use Rattle.si_base.specs.declared.graph.Signal.{Signal}
use Rattle.si_base.specs.declared.graph.SigKind.{SigKind}
use Rattle.si_base.specs.declared.graph.SigKind.TheVariants.{Input, Output, Internal}
use Rattle.si_base.specs.Netlist.{SumGate, Gc, Netlist, gate_value}
use Rattle.si_settled.specs.Settling.{IsShown}
use Rattle.si_verilog.specs.ModuleText.{verilog_name}
use Rattle.si_resettable.specs.Meaning.{value_at, value_in_reset}
use Rattle.si_resettable.specs.Refusals.{is_taken}
use Rattle.si_resettable.specs.ResettableText.{expression_text, resettable_text}

abbrev signal : List ℕ → SigKind → Signal
signal name kind = record { name = name; kind = kind }

abbrev plain : ℕ → Literal
plain sig = record { sig = sig; plain = true }

abbrev complement : ℕ → Literal
complement sig = record { sig = sig; plain = false }

-- q is set by s, and keeps its value while r is 0; p is its complement; q starts at 1
abbrev latch : ℕ → Netlist
latch start = record {
  model = codes "L";
  signals = signal (codes "r") Input ∷ signal (codes "s") Input ∷ signal (codes "q") Output
      ∷ signal (codes "p") Internal ∷ [];
  start = start;
  inserts = [];
  gates = Gc ((plain 1 ∷ []) ∷ []) ((plain 0 ∷ []) ∷ []) ∷ SumGate ((complement 2 ∷ []) ∷ []) ∷ [];
}

-- q, signal 2, starts at 1 and is forced
high_text : resettable_text (latch 4) (2 ∷ []) (codes "RST") ≡
    codes "module L(\n"
    ++ codes "  input RST,\n"
    ++ codes "  input r,\n"
    ++ codes "  input s,\n"
    ++ codes "  output q\n"
    ++ codes ");\n"
    ++ codes "  wire p;\n"
    ++ codes "  assign q = RST | ((s) | (q & ~(r)));\n"
    ++ codes "  assign p = ~q;\n"
    ++ codes "endmodule\n"
unfolding resettable_text verilog_name
high_text = refl

-- where it starts at 0
low_line : expression_text (latch 8) (2 ∷ []) (codes "reset") 2 ≡ codes "~\\reset  & ((s) | (q & ~(r)))"
unfolding verilog_name
low_line = refl

-- once q is known, p is shown
p_is_shown : IsShown (latch 4) (2 ∷ []) 3
p_is_shown = refl

-- with q at 0 and the reset input at 1, q is to be 1; without it q stays at 0
forced_high : value_in_reset (latch 4) (2 ∷ []) 2 0 ≡ true
forced_high = refl

own_value : gate_value (latch 4) 2 0 ≡ false
own_value = refl

reset_is_high : value_at (codes "RST") true (latch 4).signals 0 (codes "RST") ≡ true
reset_is_high = refl

q_is_low : value_at (codes "RST") true (latch 4).signals 0 (codes "q") ≡ false
q_is_low = refl

q_is_taken : is_taken (latch 4) (codes "q") ≡ true
q_is_taken = refl

rst_is_free : is_taken (latch 4) (codes "RST") ≡ false
rst_is_free = refl
