-- What the writers of cells and instances have still to add, a step at a time.
use Rattle.std.proofs.Common.{◌≡◌, ℕ, suc, ◌+◌, ◌-◌, ◌<◌, ◌≤◌, Bool, true, false, List, [], ◌∷◌, ◌++◌, length, drop}
use Rattle.std.proofs.Common.{filter, map, flat_map, get_or, codes, if◌then◌else◌, append_assoc, add-one, drop-cons}
use Rattle.std.proofs.Common.{refl, sym, ap, ap₂, ◌∙◌, Option, Some, arith, take}
use Rattle.std.specs.List.{join_by}
use Rattle.std.proofs.lemmas.Grind.{flat_map-append}
use Rattle.std.proofs.lemmas.List.{append-nil, take_all}
use Rattle.si_base.specs.declared.graph.Signal.{Signal}
use Rattle.si_base.specs.declared.ids.Literal.{Literal}
use Rattle.si_base.specs.Bits.{bit}
use Rattle.si_base.specs.Netlist.{Gate, Cell as CellGate, Netlist, Sum}
use Rattle.si_base.specs.NetlistText.{name_of}
use Rattle.si_cell.specs.Library.{Cell}
use Rattle.si_genlib.specs.Ports.{Ports, PortedLibrary}
use Rattle.si_verilog.specs.ModuleText.{sum_text, verilog_name, verilog_text, wire_line}
use Rattle.si_resettable.specs.Forcing.{Forcing}
use Rattle.si_resettable.specs.ResettableText.{forced_text}
use Rattle.si_structure.specs.Parts.{Placement}
use Rattle.si_structure.specs.StructureText.{GateInstances, PortedCell, cell_inputs, cell_instances, cell_named}
use Rattle.si_structure.specs.StructureText.{cell_netlist}
use Rattle.si_structure.specs.StructureText.{cell_signals, complemented, connected, connection_text, driven_gates}
use Rattle.si_structure.specs.StructureText.{feedback, gate_instances, head_text, in_order, instance_name}
use Rattle.si_structure.specs.StructureText.{inverted_net, inverted_nets, inverted_pins}
use Rattle.si_structure.specs.StructureText.{inverter_if_any}
use Rattle.si_structure.specs.StructureText.{inverter_of, is_used, own_connections, pin_nets, placed}
use Rattle.si_structure.specs.StructureText.{placement_line, ported_cells, reads_own, structure_text, used_cells}
use Rattle.si_structure.specs.StructureText.{driven_net, forced_by, forced_line, free_net, free_nets, reset_lines}
use Rattle.si_structure.specs.StructureText.{reset_ports, with_ports}
use Rattle.si_structure.specs.Loops.Writing.{cell_lines, connection_texts, gate_wires}
use Rattle.si_structure.specs.Loops.Writing.{inverter_lines, lines_of, pin_wires, placement_lines, wire_lines}
use Rattle.si_structure.proofs.CellLemmas.{driven_is_last}

-- the lines of the gates, the next of which is that of a signal from the i-th on
abbrev pub placements_left : List PortedCell → List Signal → List ℕ → ℕ → List Gate → List ℕ
placements_left cells signals forced i gates = placement_lines cells signals forced (drop i signals) gates

abbrev pub wires_left : List PortedCell → List Signal → ℕ → List Gate → List ℕ
wires_left cells signals i gates = wire_lines cells (drop i signals) gates

-- those of the pins from the i-th on
abbrev pub inverters_left : List PortedCell → List Signal → List ℕ → List (List ℕ) → ℕ → List Literal → List ℕ
inverters_left cells signals name pins i literals = inverter_lines cells signals name (drop i pins) literals

abbrev pub pin_wires_left : List ℕ → List (List ℕ) → ℕ → List Literal → List ℕ
pin_wires_left name pins i literals = pin_wires name (drop i pins) literals

abbrev pub nets_left : List Signal → List ℕ → List (List ℕ) → ℕ → List Literal → List (List ℕ)
nets_left signals name pins i literals = pin_nets signals name (drop i pins) literals

-- the connections of the pins from the i-th on
abbrev pub pins_left : List (List ℕ) → ℕ → List (List ℕ) → List ℕ
pins_left pins i nets = connection_texts (drop i pins) nets

-- the modules of the cells from the i-th on that are used, with these names of their ports
abbrev pub cells_left : PortedLibrary → Netlist → List Cell → ℕ → List Ports → List ℕ
cells_left ported n cells i ports = flat_map (λ c. verilog_text (cell_netlist c))
    (filter (λ c. is_used (ported_cells ported) n c.cell) (with_ports (drop i cells) ports))

cell_here : (cells : List Cell) (i : ℕ) (cell : Cell) → i < length cells → cell ≡ get_or cells i cell
    → drop i cells ≡ cell ∷ drop (i + 1) cells
cell_here cells i cell within is =
    rw add-one (drop-cons cells i cell within ∙ ap (λ (c : Cell). c ∷ drop (suc i) cells) (sym is))

-- the names of the ports of the first cell that is left, and of the others
first_and_rest : (left : List Ports) (p : Ports) → 1 ≤ length left → p ≡ get_or left 0 p
    → left ≡ p ∷ take (length left - 1) (drop 1 left)
first_and_rest [] p some at = absurd (omega arith)
first_and_rest (q ∷ qs) p some at =
    let all : take (length (q ∷ qs) - 1) qs ≡ qs = take_all (length (q ∷ qs) - 1) qs (omega arith) in
    ap₂ (λ (r : Ports) (l : List Ports). r ∷ l) (sym at) (sym all)

module _ (ported : PortedLibrary) (n : Netlist) (cells : List Cell) (i : ℕ) (cell : Cell) (p : Ports)
    (left : List Ports) (within : i < length cells) (is : cell ≡ get_or cells i cell) (some : 1 ≤ length left)
    (at : p ≡ get_or left 0 p) where
  abbrev rest : List Ports
  rest = take (length left - 1) (drop 1 left)

  pub cell_added : (text : List ℕ) → is_used (ported_cells ported) n cell ≡ true
      → (text ++ verilog_text (cell_netlist (record { cell = cell; ports = p })))
      ++ cells_left ported n cells (i + 1) rest ≡ text ++ cells_left ported n cells i left
  cell_added text used = one rest (first_and_rest left p some at)
    where
      one : (ports : List Ports) → left ≡ p ∷ ports
          → (text ++ verilog_text (cell_netlist (record { cell = cell; ports = p })))
          ++ cells_left ported n cells (i + 1) ports ≡ text ++ cells_left ported n cells i left
      one ports all = rw (all, cell_here cells i cell within is, used)
          (append_assoc text (verilog_text (cell_netlist (record { cell = cell; ports = p })))
          (cells_left ported n cells (i + 1) ports))

  pub cell_skipped : is_used (ported_cells ported) n cell ≡ false
      → cells_left ported n cells (i + 1) rest ≡ cells_left ported n cells i left
  cell_skipped unused = one rest (first_and_rest left p some at)
    where
      one : (ports : List Ports) → left ≡ p ∷ ports
          → cells_left ported n cells (i + 1) ports ≡ cells_left ported n cells i left
      one ports all = rw (all, cell_here cells i cell within is, unused) refl

-- ---- a cell as a module

regrouped : (text h a o q s e f : List ℕ) → (((((text ++ h) ++ a) ++ o) ++ q) ++ s) ++ (e ++ f)
    ≡ text ++ ((h ++ ((((a ++ o) ++ q) ++ s) ++ e)) ++ f)
regrouped text h a o q s e f = simp append_assoc

cell_text : (c : PortedCell) → verilog_text (cell_netlist c)
    ≡ (head_text c.cell.name [] (cell_signals c)
    ++ ((((codes "  assign " ++ verilog_name c.ports.output) ++ codes " = ")
    ++ sum_text (cell_signals c) c.cell.sum) ++ codes ";\n")) ++ codes "endmodule\n"
unfolding verilog_text
cell_text c = rw (driven_is_last (cell_inputs c) c.ports.output)
    (ap (λ (t : List ℕ). (head_text c.cell.name [] (cell_signals c) ++ t) ++ codes "endmodule\n")
    (append-nil ((((codes "  assign " ++ verilog_name c.ports.output) ++ codes " = ")
    ++ sum_text (cell_signals c) c.cell.sum) ++ codes ";\n")))

-- the texts that the calls leave one after another
pub cell_by_calls : (c : PortedCell) (name output : List ℕ) (signals : List Signal) (sum : Sum)
    (text head begun named given summed : List ℕ) → name ≡ c.cell.name → output ≡ c.ports.output
    → signals ≡ cell_signals c → sum ≡ c.cell.sum → head ≡ text ++ head_text name [] signals
    → begun ≡ head ++ codes "  assign " → named ≡ begun ++ verilog_name output → given ≡ named ++ codes " = "
    → summed ≡ given ++ sum_text signals sum
    → summed ++ codes ";\nendmodule\n" ≡ text ++ verilog_text (cell_netlist c)
cell_by_calls c name output signals sum text head begun named given summed
    is_name is_output are_signals is_sum is_head is_begun is_named is_given is_summed =
    rw (is_summed, is_given, is_named, is_begun, is_head, is_name, is_output, are_signals, is_sum) (
    regrouped text (head_text c.cell.name [] (cell_signals c)) (codes "  assign ") (verilog_name c.ports.output)
    (codes " = ") (sum_text (cell_signals c) c.cell.sum) (codes ";\n") (codes "endmodule\n")
    ∙ ap (λ (t : List ℕ). text ++ t) (sym (cell_text c)))

-- ---- an instance

module _ {A : Type 0} (f : A → List ℕ) (between : List ℕ) where
  more_joined : (x : A) (xs : List A) → flat_map (λ y. between ++ f y) (x ∷ xs) ≡ between ++ join_by f between (x ∷ xs)
  more_joined x xs = append_assoc between (f x) (flat_map (λ y. between ++ f y) xs)

  behind : (xs : List A) (y : A) (ys : List A)
      → flat_map (λ z. between ++ f z) (xs ++ y ∷ ys) ≡ between ++ join_by f between (xs ++ y ∷ ys)
  behind [] y ys = more_joined y ys
  behind (x ∷ xs) y ys = more_joined x (xs ++ y ∷ ys)

  -- items before others, each before what stands between two
  pub joined_before : (xs : List A) (y : A) (ys : List A) → join_by f between (xs ++ y ∷ ys)
      ≡ flat_map (λ x. f x ++ between) xs ++ join_by f between (y ∷ ys)
  joined_before [] y ys = refl
  joined_before (x ∷ xs) y ys = ap (λ (t : List ℕ). f x ++ t) (behind xs y ys ∙ ap (λ (t : List ℕ). between ++ t)
      (joined_before xs y ys))
      ∙ sym (four (f x) between (flat_map (λ z. f z ++ between) xs) (join_by f between (y ∷ ys)))
    where
      four : (a b c d : List ℕ) → ((a ++ b) ++ c) ++ d ≡ a ++ (b ++ (c ++ d))
      four a b c d = simp append_assoc

pub connections_joined : (c : PortedCell) (nets : List (List ℕ)) (read driven : List ℕ)
    → join_by connection_text (codes ", ") (connected c.ports.pins nets ++ own_connections c read driven)
    ≡ connection_texts c.ports.pins nets ++ join_by connection_text (codes ", ") (own_connections c read driven)
connections_joined c nets read driven = by (reads_own c.cell)
  where
    by : (reads : Bool) → join_by connection_text (codes ", ") (connected c.ports.pins nets
        ++ ((if reads then record { port = feedback c.ports; net = read } ∷ [] else [])
        ++ record { port = c.ports.output; net = driven } ∷ []))
        ≡ connection_texts c.ports.pins nets ++ join_by connection_text (codes ", ")
        ((if reads then record { port = feedback c.ports; net = read } ∷ [] else [])
        ++ record { port = c.ports.output; net = driven } ∷ [])
    by true = joined_before connection_text (codes ", ") (connected c.ports.pins nets)
        (record { port = feedback c.ports; net = read }) (record { port = c.ports.output; net = driven } ∷ [])
    by false = joined_before connection_text (codes ", ") (connected c.ports.pins nets)
        (record { port = c.ports.output; net = driven }) []

eight_parts : (text b c d i p j o e : List ℕ)
    → (((((((text ++ b) ++ c) ++ d) ++ i) ++ p) ++ j) ++ o) ++ e
    ≡ text ++ ((((((b ++ c) ++ d) ++ i) ++ p) ++ (j ++ o)) ++ e)
eight_parts text b c d i p j o e = simp append_assoc

pub placement_by_calls : (instance : List ℕ) (c : PortedCell) (nets : List (List ℕ)) (read driven : List ℕ)
    (cell_name : List ℕ) (cell_pins given : List (List ℕ))
    (text indented called spaced named opened pins whole : List ℕ)
    → cell_name ≡ c.cell.name → cell_pins ≡ c.ports.pins → given ≡ nets
    → indented ≡ text ++ codes "  " → called ≡ indented ++ verilog_name cell_name → spaced ≡ called ++ codes " "
    → named ≡ spaced ++ verilog_name instance → opened ≡ named ++ codes "("
    → pins ≡ opened ++ connection_texts cell_pins given
    → whole ≡ pins ++ join_by connection_text (codes ", ") (own_connections c read driven)
    → whole ++ codes ");\n" ≡ text ++ placement_line (placed instance c nets read driven)
placement_by_calls instance c nets read driven cell_name cell_pins given text indented called spaced named opened pins
    whole is_name are_pins are_given is_indented is_called is_spaced is_named is_opened is_pins is_whole =
    let own_text = join_by connection_text (codes ", ") (own_connections c read driven) in
    rw (is_whole, is_pins, is_opened, is_named, is_spaced, is_called, is_indented, is_name, are_pins, are_given) (
    eight_parts text (codes "  ") (verilog_name c.cell.name) (codes " ") (verilog_name instance) (codes "(")
    (connection_texts c.ports.pins nets) own_text (codes ");\n")
    ∙ ap (λ (t : List ℕ). text ++ ((((((codes "  " ++ verilog_name c.cell.name) ++ codes " ")
    ++ verilog_name instance) ++ codes "(") ++ t) ++ codes ");\n"))
    (sym (connections_joined c nets read driven)))

-- ---- lists of lists

nested : {A B : Type 0} (f : B → List ℕ) (g : A → List B) (xs : List A)
    → flat_map (λ x. flat_map f (g x)) xs ≡ flat_map f (flat_map g xs)
nested f g [] = refl
nested f g (x ∷ xs) = ap (λ (t : List ℕ). flat_map f (g x) ++ t) (nested f g xs)
    ∙ sym (flat_map-append f (g x) (flat_map g xs))

mapped : {A B : Type 0} (f : B → List ℕ) (g : A → B) (xs : List A)
    → flat_map (λ x. f (g x)) xs ≡ flat_map f (map g xs)
mapped f g [] = refl
mapped f g (x ∷ xs) = ap (λ (t : List ℕ). f (g x) ++ t) (mapped f g xs)

-- ---- the instances of a gate

-- the lines of inverters, and behind them that of the gate's own instance
pub instances_by_calls : (cells : List PortedCell) (signals : List Signal) (forced name : List ℕ) (c : PortedCell)
    (literals : List Literal) (pins : List (List ℕ)) (cell : Cell) (ports : Ports) (instance : List ℕ)
    (nets : List (List ℕ)) (read driven text inverted : List ℕ) → pins ≡ c.ports.pins → cell ≡ c.cell
    → ports ≡ c.ports → instance ≡ instance_name name → nets ≡ pin_nets signals name pins literals → read ≡ name
    → driven ≡ driven_net signals forced name → inverted ≡ text ++ inverter_lines cells signals name pins literals
    → inverted ++ placement_line (placed instance (record { cell = cell; ports = ports }) nets read driven)
    ≡ text ++ cell_lines cells signals forced name c literals
instances_by_calls cells signals forced name c literals pins cell ports instance nets read driven text inverted are_pins
    is_cell are_ports is_instance are_nets is_read is_driven is_inverted =
    let i = cell_instances cells signals forced name c literals in
    let lines = nested placement_line (λ (p : List ℕ × Literal). inverter_if_any (inverter_of cells) name p.0
    (name_of signals p.1.sig)) (complemented c.ports.pins literals) in
    rw (is_inverted, are_nets, is_instance, is_read, is_driven, is_cell, are_ports, are_pins) (
    append_assoc text (inverter_lines cells signals name c.ports.pins literals) (placement_line i.gate)
    ∙ ap (λ (t : List ℕ). text ++ t)
    (ap (λ (t : List ℕ). t ++ placement_line i.gate) lines
    ∙ ap (λ (t : List ℕ). lines_of i.inverters ++ t) (sym (append-nil (placement_line i.gate)))
    ∙ sym (flat_map-append placement_line i.inverters (i.gate ∷ []))))

-- the wires of a gate with a cell
pub gate_wires_some : (cells : List PortedCell) (name cell : List ℕ) (literals : List Literal) (sum : Sum)
    (c : PortedCell) → cell_named cells cell ≡ Some c
    → pin_wires name c.ports.pins literals ≡ gate_wires cells name (CellGate cell literals sum)
gate_wires_some cells name cell literals sum c found =
    let xs = complemented c.ports.pins literals in
    rw found (mapped (λ (pin : List ℕ). wire_line (inverted_net name pin)) (λ (p : List ℕ × Literal). p.0) xs
    ∙ mapped wire_line (inverted_net name) (map (λ (p : List ℕ × Literal). p.0) xs))

-- ---- the whole text

seven_parts : (c h f w r p e : List ℕ) → (((((([] ++ c ++ h) ++ f) ++ w) ++ r) ++ p) ++ e)
    ≡ c ++ ((((h ++ (f ++ w)) ++ r) ++ p) ++ e)
seven_parts c h f w r p e = simp append_assoc

pub text_by_calls : (ported : PortedLibrary) (n : Netlist) (reset : Option Forcing)
    (none cells head free wires assigns lines all : List ℕ) → none ≡ []
    → cells ≡ none ++ flat_map (λ c. verilog_text (cell_netlist c)) (used_cells ported n)
    → head ≡ cells ++ head_text n.model (reset_ports reset) n.signals
    → free ≡ head ++ flat_map wire_line (free_nets n.signals (forced_by reset))
    → wires ≡ free ++ wire_lines (ported_cells ported) n.signals n.gates
    → assigns ≡ wires ++ reset_lines n reset
    → lines ≡ assigns ++ placement_lines (ported_cells ported) n.signals (forced_by reset) n.signals n.gates
    → all ≡ lines ++ codes "endmodule\n" → all ≡ structure_text ported n reset
unfolding structure_text
text_by_calls ported n reset none cells head free wires assigns lines all is_none are_cells is_head are_free are_wires
    are_assigns are_lines is_all =
    let front = flat_map (λ c. verilog_text (cell_netlist c)) (used_cells ported n) in
    let library = ported_cells ported in
    let forced = forced_by reset in
    let pairs = driven_gates n.signals n.gates in
    let first = head_text n.model (reset_ports reset) n.signals in
    let loose = free_nets n.signals forced in
    let inverted = inverted_nets library n.signals n.gates in
    let end = codes "endmodule\n" in
    let gate_of = λ (p : Signal × Gate). gate_instances library n.signals forced p.0.name p.1 in
    let whole : List ℕ → List ℕ → List ℕ =
    λ middle placed. front ++ ((((first ++ middle) ++ reset_lines n reset) ++ placed) ++ end) in
    let all_wires : flat_map wire_line loose ++ wire_lines library n.signals n.gates
    ≡ flat_map wire_line (loose ++ inverted) =
    ap (λ (t : List ℕ). flat_map wire_line loose ++ t)
    (nested wire_line (λ (p : Signal × Gate). map (inverted_net p.0.name) (inverted_pins library p.1)) pairs)
    ∙ sym (flat_map-append wire_line loose inverted) in
    let all_placed = nested placement_line (λ (p : Signal × Gate). flat_map in_order (gate_of p)) pairs
    ∙ ap lines_of (nested_instances gate_of pairs) in
    rw (is_all, are_lines, are_assigns, are_wires, are_free, is_head, are_cells, is_none) (
    seven_parts front first (flat_map wire_line loose) (wire_lines library n.signals n.gates) (reset_lines n reset)
    (placement_lines library n.signals forced n.signals n.gates) end
    ∙ (λ i. whole (all_wires i) (all_placed i)))
  where
    nested_instances : (g : Signal × Gate → List GateInstances) (ps : List (Signal × Gate))
        → flat_map (λ p. flat_map in_order (g p)) ps ≡ flat_map in_order (flat_map g ps)
    nested_instances g [] = refl
    nested_instances g (p ∷ ps) = ap (λ (t : List Placement). flat_map in_order (g p) ++ t) (nested_instances g ps)
        ∙ sym (flat_map-append in_order (g p) (flat_map g ps))

-- ---- what a reset input adds

-- the wires of the free nets of these signals from the i-th on
abbrev pub free_left : List Signal → List ℕ → ℕ → List ℕ
free_left signals forced i = flat_map wire_line (free_nets signals (drop i forced))

-- the assigns of these from the i-th on
abbrev pub forced_left : Netlist → List ℕ → List ℕ → ℕ → List ℕ
forced_left n reset forced i = flat_map (forced_line n reset) (drop i forced)

line_parts : (text a m e f s : List ℕ) → ((((text ++ a) ++ m) ++ e) ++ f) ++ s ≡ text ++ ((((a ++ m) ++ e) ++ f) ++ s)
line_parts text a m e f s = simp append_assoc

-- the texts that the calls leave one after another
pub forced_by_calls : (n : Netlist) (reset : List ℕ) (z : ℕ) (value : Bool)
    (name net none free text begun named given said : List ℕ) → name ≡ name_of n.signals z → value ≡ bit n.start z
    → none ≡ [] → net ≡ free_net name → free ≡ none ++ verilog_name net → begun ≡ text ++ codes "  assign "
    → named ≡ begun ++ verilog_name name → given ≡ named ++ codes " = "
    → said ≡ given ++ forced_text reset value free → said ++ codes ";\n" ≡ text ++ forced_line n reset z
forced_by_calls n reset z value name net none free text begun named given said is_name is_value is_none is_net is_free
    is_begun is_named is_given is_said =
    let own = name_of n.signals z in
    rw (is_said, is_given, is_named, is_begun, is_free, is_net, is_none, is_value, is_name)
    (line_parts text (codes "  assign ") (verilog_name own) (codes " = ")
    (forced_text reset (bit n.start z) (verilog_name (free_net own))) (codes ";\n"))
