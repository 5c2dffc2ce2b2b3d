-- (text) The text of a netlist as a module of Verilog with a reset input.
use Rattle.std.specs.Prelude.{◌≡◌, ℕ, Bool, true, false, List, [], ◌∷◌, ◌++◌, codes, flat_map}
use Rattle.std.specs.Prelude.{slice_get, Option, Some, None, if◌then◌else◌}
use Rattle.si_base.specs.Bits.{bit}
use Rattle.si_base.specs.Bytes.{tilde}
use Rattle.si_base.specs.declared.graph.Signal.{Signal}
use Rattle.si_base.specs.Netlist.{Netlist, Gate, gate_place}
use Rattle.si_base.specs.NetlistText.{name_of}
use Rattle.si_loops.specs.Arcs.{gated}
use Rattle.si_settled.specs.Settling.{AreForced, is_among}
use Rattle.si_verilog.specs.Grammar.{InputPort}
use Rattle.si_verilog.specs.ModuleText.{verilog_name, gate_text, ports_text, ports_of, wire_line}
use Rattle.si_verilog.specs.ModuleText.{wires_of}

abbrev pub text_if_there : List Signal → List ℕ → Option Gate → List ℕ
text_if_there signals name None = []
text_if_there signals name (Some gate) = gate_text signals name gate

-- the expression of the gate of z
abbrev pub plain_text : Netlist → ℕ → List ℕ
plain_text n z =
    text_if_there n.signals (name_of n.signals z) (slice_get n.gates (gate_place n.signals z))

-- the expression with the reset input, which forces that value
abbrev pub forced_text : List ℕ → Bool → List ℕ → List ℕ
forced_text reset true plain = verilog_name reset ++ codes " | (" ++ plain ++ codes ")"
forced_text reset false plain =
    tilde ∷ verilog_name reset ++ codes " & (" ++ plain ++ codes ")"

-- the expression of z, which is forced to its start value if it is one of the list
abbrev pub expression_text : Netlist → List ℕ → List ℕ → ℕ → List ℕ
expression_text n forced reset z =
    if is_among forced z then forced_text reset (bit n.start z) (plain_text n z)
    else plain_text n z

abbrev pub assign_line : Netlist → List ℕ → List ℕ → ℕ → List ℕ
assign_line n forced reset z = codes "  assign " ++ verilog_name (name_of n.signals z)
    ++ codes " = " ++ expression_text n forced reset z ++ codes ";\n"

-- the text with the reset input in front of the ports, where it forces these signals
unfoldable pub resettable_text : Netlist → List ℕ → List ℕ → List ℕ
resettable_text n forced reset = codes "module " ++ verilog_name n.model ++ codes "("
    ++ ports_text (InputPort reset ∷ ports_of n.signals) ++ codes ");\n"
    ++ flat_map wire_line (wires_of n.signals)
    ++ flat_map (assign_line n forced reset) (gated n.signals) ++ codes "endmodule\n"

-- the text in which just the outputs to force are forced
pub record IsResettableText (n : Netlist) (reset text : List ℕ) : Type 0 where
  pub forced : List ℕ
  pub are : AreForced n forced
  pub text_is : text ≡ resettable_text n forced reset
