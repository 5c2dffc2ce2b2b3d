-- The text spells a module, which is the netlist with the reset input.
use Rattle.std.proofs.Common.{◌≡◌, ℕ, List, [], ◌∷◌, ◌++◌, map, flat_map, sym, ap, subst, ◌∙◌, append_assoc, codes}
use Rattle.std.proofs.Common.{refl}
use Rattle.std.specs.List.{join_by}
use Rattle.si_base.specs.Graph.{IsNonInput, names_in}
use Rattle.si_base.specs.Netlist.{Netlist, gate_place}
use Rattle.si_base.specs.WellFormed.{IsNetlist}
use Rattle.si_loops.specs.Arcs.{gated}
use Rattle.si_verilog.specs.Declared.{declared_names, port_name}
use Rattle.si_verilog.specs.Symbols.{Symbol, Name, Word, Mark, symbols_of}
use Rattle.si_verilog.specs.Grammar.{Port, InputPort, Module, port_symbols, wire_symbols, module_symbols}
use Rattle.si_verilog.specs.Meaning.{IsModule}
use Rattle.si_verilog.specs.ModuleText.{verilog_name, ports_text, wire_line, ports_of, wires_of}
use Rattle.si_verilog.proofs.NameLemmas.{word_is_writable, signal_is_writable}
use Rattle.si_verilog.proofs.SymbolLemmas.{ReadsBefore, both_read, read_then, parted_read, module_read}
use Rattle.si_verilog.proofs.SymbolLemmas.{opening_read, header_end_read, end_read, written_read}
use Rattle.si_verilog.proofs.GrammarOneModule.{one_module}
use Rattle.si_verilog.proofs.NetlistLemmas.{netlist_writable}
use Rattle.si_verilog.proofs.DeclaredLemmas.{all_declared as verilog_declared}
use Rattle.si_verilog.proofs.ModuleLemmas.{ports_read, ports_writable, wires_read, wires_writable}
use Rattle.si_verilog.proofs.ModuleLemmas.{text_means as verilog_means}
use Rattle.si_resettable.specs.Meaning.{IsResettable, IsResettableGate, MeansResettable}
use Rattle.si_resettable.specs.Refusals.{HasRoomFor}
use Rattle.si_resettable.specs.ResettableText.{IsResettableText, assign_line, resettable_text}
use Rattle.si_resettable.proofs.LineLemmas.{SaysLines, says_lines}
use Rattle.si_resettable.proofs.PlaceLemmas.{all_gated, at_its_place, gated_names}

grouped : (w n o p c s a e : List Symbol) → ((((((w ++ n) ++ o) ++ p) ++ c) ++ s) ++ a) ++ e
    ≡ w ++ (n ++ (o ++ (p ++ (c ++ (s ++ (a ++ e))))))
grouped w n o p c s a e = simp append_assoc

module _ (n : Netlist) (is : IsNetlist n) (forced reset : List ℕ) (room : HasRoomFor n reset) where
  said : SaysLines n forced reset (gated n.signals)
  said = says_lines n is forced reset room (gated n.signals) (all_gated n.signals)

  abbrev all_ports : List Port
  all_ports = InputPort reset ∷ ports_of n.signals

  spelled : Module
  spelled = record {
    name = n.model;
    ports = all_ports;
    wires = wires_of n.signals;
    assigns = said.assigns;
  }

  text_symbols : symbols_of (resettable_text n forced reset) ≡ module_symbols spelled said.symbols
  unfolding resettable_text spelled
  text_symbols =
      let signals = netlist_writable n is in
      let name = verilog_name n.model in
      let ports = ports_text all_ports in
      let wires = flat_map wire_line (wires_of n.signals) in
      let lines = flat_map (assign_line n forced reset) (gated n.signals) in
      let word : List Symbol = Word (codes "module") ∷ [] in
      let model : List Symbol = Name n.model ∷ [] in
      let opens : List Symbol = Mark 40 ∷ [] in
      let port_list : List Symbol = join_by port_symbols (Mark 44 ∷ []) all_ports in
      let closes : List Symbol = Mark 41 ∷ Mark 59 ∷ [] in
      let wire_list : List Symbol = flat_map wire_symbols (wires_of n.signals) in
      let named : ReadsBefore (codes "module " ++ name) (word ++ model) = read_then (codes "module ") name word model
      module_read (written_read n.model (word_is_writable n.model is.model)) in
      let opened = parted_read (codes "module " ++ name) (codes "(") (word ++ model) opens named (λ more. refl)
      opening_read in
      let listed = both_read (codes "module " ++ name ++ codes "(") ports ((word ++ model) ++ opens) port_list opened
      (ports_read all_ports (signal_is_writable reset room.is_name, ports_writable n.signals signals)) in
      let closed = both_read (codes "module " ++ name ++ codes "(" ++ ports) (codes ");\n")
      (((word ++ model) ++ opens) ++ port_list) closes listed header_end_read in
      let wired = both_read (codes "module " ++ name ++ codes "(" ++ ports ++ codes ");\n") wires
      ((((word ++ model) ++ opens) ++ port_list) ++ closes) wire_list closed
      (wires_read (wires_of n.signals) (wires_writable n.signals signals)) in
      let assigned = both_read (codes "module " ++ name ++ codes "(" ++ ports ++ codes ");\n" ++ wires) lines
      (((((word ++ model) ++ opens) ++ port_list) ++ closes) ++ wire_list) said.symbols wired said.reads in
      assigned (codes "endmodule\n")
      ∙ ap (λ (s : List Symbol). ((((((word ++ model) ++ opens) ++ port_list) ++ closes) ++ wire_list) ++ said.symbols)
      ++ s) end_read
      ∙ grouped word model opens port_list closes wire_list said.symbols (Word (codes "endmodule") ∷ [])

  is_module : IsModule (resettable_text n forced reset) spelled
  unfolding spelled
  is_module = record { assigns = said.symbols; spell = said.spell; whole = text_symbols }

  gate_said : (z : ℕ) → IsNonInput n.signals z → IsResettableGate n forced reset spelled z
  unfolding spelled
  gate_said z non_input =
      let here = said.each (gate_place n.signals z) z (at_its_place n.signals z non_input) in
      record { tree = here.0; there = here.1; free = here.2; held = here.3 }

  is_resettable : IsResettable n forced reset spelled
  unfolding spelled
  is_resettable = record {
    named = refl;
    ports = refl;
    wires = refl;
    assigned = said.names ∙ gated_names n.signals;
    gates = gate_said;
  }

-- the text is that of a module, which is the netlist with the reset input
pub text_means : (n : Netlist) (reset text : List ℕ) → IsNetlist n → HasRoomFor n reset
    → IsResettableText n reset text → MeansResettable text n reset
text_means n reset text is room is_text = record {
  forced = is_text.forced;
  are = is_text.are;
  whole = spelled n is is_text.forced reset room;
  spells = subst (λ (t : List ℕ). IsModule t (spelled n is is_text.forced reset room)) (sym is_text.text_is)
      (is_module n is is_text.forced reset room);
  is = is_resettable n is is_text.forced reset room;
}

-- and any module of the text is
pub text_means_only : (n : Netlist) (forced reset : List ℕ) (m : Module) → IsNetlist n → HasRoomFor n reset
    → IsModule (resettable_text n forced reset) m → IsResettable n forced reset m
text_means_only n forced reset m is room spells = subst (IsResettable n forced reset)
    (one_module (symbols_of (resettable_text n forced reset)) (spelled n is forced reset room) m
    (is_module n is forced reset room) spells) (is_resettable n is forced reset room)

-- it declares the reset input, and then each signal once
pub all_declared : (n : Netlist) (forced reset : List ℕ) (m : Module) → IsNetlist n → IsResettable n forced reset m
    → declared_names m ≡ reset ∷ names_in n.signals
all_declared n forced reset m is resettable =
    let without = verilog_means n is in
    let of = without.2 in
    let signals : map port_name (ports_of n.signals) ++ wires_of n.signals ≡ names_in n.signals =
    (λ i. map port_name (sym of.ports i) ++ sym of.wires i) ∙ verilog_declared n without.0 is of in
    rw (resettable.ports, resettable.wires) (ap (λ (names : List (List ℕ)). reset ∷ names) signals)
