-- What the writers of the text have still to add, a step at a time.
use Rattle.std.proofs.Common.{◌≡◌, ℕ, suc, ◌+◌, ◌<◌, Bool, true, false, List, [], ◌∷◌, ◌++◌, drop, length, get_or, map}
use Rattle.std.proofs.Common.{flat_map, slice_get, Some, if◌then◌else◌, codes, refl, sym, ap, ◌∙◌, add-one}
use Rattle.std.proofs.Common.{append_assoc}
use Rattle.std.proofs.Math.Seq.{drop-cons}
use Rattle.std.proofs.lemmas.Grind.{flat_map-append}
use Rattle.si_base.specs.declared.graph.Signal.{Signal}
use Rattle.si_base.specs.declared.graph.SigKind.TheVariants.{Input, Output, Internal, Inserted}
use Rattle.si_base.specs.Bits.{bit}
use Rattle.si_base.specs.Netlist.{Netlist, Gate, gate_place}
use Rattle.si_base.specs.NetlistText.{name_of, names_of}
use Rattle.si_loops.specs.Arcs.{gated}
use Rattle.si_settled.specs.Settling.{AreForced, is_among}
use Rattle.si_verilog.specs.Grammar.{InputPort}
use Rattle.si_verilog.specs.ModuleText.{verilog_name, gate_text, port_text, ports_text, ports_of, wire_line}
use Rattle.si_verilog.specs.Loops.Writing.{more_ports, port_lines}
use Rattle.si_verilog.proofs.WritingLemmas.{listed, two_lists, all_lines, joined}
use Rattle.si_resettable.specs.ResettableText.{text_if_there, plain_text, forced_text, expression_text, assign_line}
use Rattle.si_resettable.specs.ResettableText.{IsResettableText, resettable_text}

-- ---- ports

ports_behind : (signals : List Signal) → more_ports true (port_lines (codes "  input ") Input signals)
    ++ more_ports true (port_lines (codes "  output ") Output signals)
    ≡ flat_map (λ p. codes ",\n" ++ port_text p) (ports_of signals)
ports_behind signals =
    let ins = port_lines (codes "  input ") Input signals in
    let outs = port_lines (codes "  output ") Output signals in
    two_lists true ins outs ∙ ap (more_ports true) (all_lines signals) ∙ listed (map port_text (ports_of signals))
    ∙ joined (ports_of signals)

five_parts : (text first name inputs outputs end : List ℕ) → ((((text ++ first) ++ name) ++ inputs) ++ outputs) ++ end
    ≡ text ++ ((first ++ (name ++ (inputs ++ outputs))) ++ end)
five_parts text first name inputs outputs end = simp append_assoc

pub ports_by_calls : (signals : List Signal) (reset text first named inputs outputs : List ℕ)
    → first ≡ text ++ codes "\n  input " → named ≡ first ++ verilog_name reset
    → inputs ≡ named ++ more_ports true (port_lines (codes "  input ") Input signals)
    → outputs ≡ inputs ++ more_ports true (port_lines (codes "  output ") Output signals)
    → outputs ++ codes "\n" ≡ text ++ ports_text (InputPort reset ∷ ports_of signals)
ports_by_calls signals reset text first named inputs outputs is_first is_named are_inputs are_outputs =
    rw (are_outputs, are_inputs, is_named, is_first) (
    five_parts text (codes "\n  input ") (verilog_name reset)
    (more_ports true (port_lines (codes "  input ") Input signals))
    (more_ports true (port_lines (codes "  output ") Output signals)) (codes "\n")
    ∙ ap (λ (lines : List ℕ). text ++ ((codes "\n  input " ++ (verilog_name reset ++ lines)) ++ codes "\n"))
    (ports_behind signals)
    )

-- ---- assigns

four_parts : (text first name second expression end : List ℕ)
    → (((text ++ first) ++ name) ++ second) ++ expression ++ end
    ≡ text ++ ((((first ++ name) ++ second) ++ expression) ++ end)
four_parts text first name second expression end = simp append_assoc

pub line_by_calls : (n : Netlist) (forced reset : List ℕ) (z : ℕ) (text first named given said name : List ℕ)
    → name ≡ name_of n.signals z → first ≡ text ++ codes "  assign " → named ≡ first ++ verilog_name name
    → given ≡ named ++ codes " = " → said ≡ given ++ expression_text n forced reset z
    → said ++ codes ";\n" ≡ text ++ assign_line n forced reset z
line_by_calls n forced reset z text first named given said name is_name is_first is_named is_given is_said =
    rw (is_said, is_given, is_named, is_first, is_name) (
    four_parts text (codes "  assign ") (verilog_name (name_of n.signals z)) (codes " = ")
    (expression_text n forced reset z) (codes ";\n")
    )

-- the gate's own expression, by the gate that is there
pub plain_by_call : (n : Netlist) (z : ℕ) (signals : List Signal) (name text : List ℕ) (gate : Gate)
    → signals ≡ n.signals → name ≡ name_of signals z → slice_get n.gates (gate_place n.signals z) ≡ Some gate
    → text ++ gate_text signals name gate ≡ text ++ plain_text n z
plain_by_call n z signals name text gate are is_name there =
    rw (is_name, are) (ap (λ o. text ++ text_if_there n.signals (name_of n.signals z) o) (sym there))

-- where z isn't forced, and where it is
pub left_plain : (n : Netlist) (forced reset : List ℕ) (z : ℕ) (text plain : List ℕ) → is_among forced z ≡ false
    → plain ≡ plain_text n z → text ++ plain ≡ text ++ expression_text n forced reset z
left_plain n forced reset z text plain other is_plain = rw (is_plain, other) refl

sign_then : (text sign name joint plain end : List ℕ)
    → ((((text ++ sign) ++ name) ++ joint) ++ plain) ++ end
    ≡ text ++ (sign ++ (((name ++ joint) ++ plain) ++ end))
sign_then text sign name joint plain end = simp append_assoc

forced_as : (value : Bool) (text reset plain : List ℕ)
    → ((((text ++ (if value then [] else 126 ∷ [])) ++ verilog_name reset)
    ++ (if value then codes " | (" else codes " & (")) ++ plain) ++ codes ")"
    ≡ text ++ forced_text reset value plain
forced_as true text reset plain = sign_then text [] (verilog_name reset) (codes " | (") plain (codes ")")
forced_as false text reset plain = sign_then text (126 ∷ []) (verilog_name reset) (codes " & (") plain (codes ")")

pub forced_by_calls : (reset : List ℕ) (value : Bool) (text plain sign joint signed named opened said : List ℕ)
    → sign ≡ (if value then [] else 126 ∷ []) → joint ≡ (if value then codes " | (" else codes " & (")
    → signed ≡ text ++ sign → named ≡ signed ++ verilog_name reset → opened ≡ named ++ joint
    → said ≡ opened ++ plain → said ++ codes ")" ≡ text ++ forced_text reset value plain
forced_by_calls reset value text plain sign joint signed named opened said
    is_sign is_joint is_signed is_named is_opened is_said =
    rw (is_said, is_opened, is_named, is_signed, is_joint, is_sign) (forced_as value text reset plain)

-- the expression of z, which is forced
pub left_forced : (n : Netlist) (forced reset : List ℕ) (z : ℕ) (value : Bool) (text plain : List ℕ)
    → is_among forced z ≡ true → value ≡ bit n.start z → plain ≡ plain_text n z
    → text ++ forced_text reset value plain ≡ text ++ expression_text n forced reset z
left_forced n forced reset z value text plain among is_value is_plain = rw (is_value, is_plain, among) refl

-- the lines of the signals from the i-th on
abbrev pub lines_from : Netlist → List ℕ → List ℕ → List ℕ → ℕ → List ℕ
lines_from n forced reset gates i = flat_map (assign_line n forced reset) (drop i gates)

pub line_more : (n : Netlist) (forced reset gates : List ℕ) (i z : ℕ) (old text new : List ℕ) → i < length gates
    → z ≡ get_or gates i z → text ++ lines_from n forced reset gates i ≡ old
    → new ≡ text ++ assign_line n forced reset z → new ++ lines_from n forced reset gates (i + 1) ≡ old
line_more n forced reset gates i z old text new within at so_far is =
    let line = assign_line n forced reset z in
    let left : lines_from n forced reset gates i ≡ line ++ lines_from n forced reset gates (i + 1) =
    ap (flat_map (assign_line n forced reset)) (drop-cons gates i z within)
    ∙ ap (λ (y : ℕ). assign_line n forced reset y ++ lines_from n forced reset gates (suc i)) (sym at)
    ∙ rw add-one refl in
    ap (λ (t : List ℕ). t ++ lines_from n forced reset gates (i + 1)) is
    ∙ append_assoc text line (lines_from n forced reset gates (i + 1))
    ∙ ap (λ (t : List ℕ). text ++ t) (sym left) ∙ so_far

-- ---- the whole text

eight_parts : (m n o p c w v a e : List ℕ)
    → ((((((((m ++ n) ++ o) ++ p) ++ c) ++ w) ++ v) ++ a) ++ e)
    ≡ (((((m ++ n ++ o) ++ p) ++ c) ++ (w ++ v)) ++ a) ++ e
eight_parts m n o p c w v a e = simp append_assoc

pub text_by_calls : (n : Netlist) (forced reset : List ℕ)
    (head named opened ports closed internal inserted assigned all : List ℕ)
    → head ≡ codes "module " → named ≡ head ++ verilog_name n.model → opened ≡ named ++ codes "("
    → ports ≡ opened ++ ports_text (InputPort reset ∷ ports_of n.signals) → closed ≡ ports ++ codes ");\n"
    → internal ≡ closed ++ flat_map wire_line (names_of Internal n.signals)
    → inserted ≡ internal ++ flat_map wire_line (names_of Inserted n.signals)
    → assigned ≡ inserted ++ flat_map (assign_line n forced reset) (gated n.signals)
    → all ≡ assigned ++ codes "endmodule\n"
    → all ≡ resettable_text n forced reset
unfolding resettable_text
text_by_calls n forced reset head named opened ports closed internal inserted assigned all
    is_head is_named is_opened is_ports is_closed is_internal is_inserted is_assigned is_all =
    let port_list = ports_text (InputPort reset ∷ ports_of n.signals) in
    let lines = flat_map (assign_line n forced reset) (gated n.signals) in
    rw (is_all, is_assigned, is_inserted, is_internal, is_closed, is_ports, is_opened, is_named, is_head) (
    eight_parts (codes "module ") (verilog_name n.model) (codes "(") port_list (codes ");\n")
    (flat_map wire_line (names_of Internal n.signals)) (flat_map wire_line (names_of Inserted n.signals))
    lines (codes "endmodule\n")
    ∙ ap (λ (w : List ℕ). ((((codes "module " ++ verilog_name n.model ++ codes "(") ++ port_list)
    ++ codes ");\n") ++ w ++ lines) ++ codes "endmodule\n")
    (sym (flat_map-append wire_line (names_of Internal n.signals) (names_of Inserted n.signals)))
    )

-- the text of the outputs to force
pub text_by_forced : (n : Netlist) (reset text items forced : List ℕ) → AreForced n items → forced ≡ items
    → text ≡ resettable_text n forced reset → IsResettableText n reset text
text_by_forced n reset text items forced are same is = record {
  forced = items;
  are = are;
  text_is = is ∙ ap (λ (signals : List ℕ). resettable_text n signals reset) same;
}
